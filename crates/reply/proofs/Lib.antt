-- The laws that callers' proofs cite, and those of this crate's own functions.
pub mod Laying
pub mod Lengths
pub mod Rewriting
pub mod Examples
