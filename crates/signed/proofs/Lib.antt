-- The laws that callers' proofs cite, and those of this crate's own functions.
pub mod SameText
pub mod Case12
pub mod Streaming
pub mod Going
pub mod Short
