-- The laws that callers' proofs cite, and those of this crate's own functions.
pub mod Lines
pub mod Trims
pub mod Named
pub mod Places
pub mod Bytes
pub mod Joined
pub mod Marks
pub mod Notes
