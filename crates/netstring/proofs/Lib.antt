-- The laws that callers' proofs cite, and those of this crate's own functions.
pub mod Determined
pub mod Laid
pub mod Scanned
pub mod Parts
pub mod Examples
