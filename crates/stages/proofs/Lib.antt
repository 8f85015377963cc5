-- The laws that callers' proofs cite, and those of this crate's own functions.
pub mod Checks
pub mod Parts
pub mod Refusals
pub mod Stages
pub mod Covering
