-- The laws of this crate: those of Output serve callers too, and the others its own functions.
pub mod KeyBlock
pub mod Output
pub mod Examples
