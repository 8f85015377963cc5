-- The laws that callers' proofs cite, and those of this crate's own functions.
pub mod Texts
pub mod Bytes
pub mod Laying
pub mod Steps
pub mod Readback
