-- The laws of this crate: those of Output and Streaming serve callers too, and the others its own functions.
pub mod ChMaj
pub mod Rotations
pub mod Schedule
pub mod Rounds
pub mod Blocks
pub mod Constants
pub mod Fitting
pub mod Output
pub mod Streaming
pub mod Padding
pub mod Examples
