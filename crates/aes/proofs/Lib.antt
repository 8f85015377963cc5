-- The laws that callers' proofs cite, and those of this crate's own functions.
pub mod Arrays
pub mod Field
pub mod Substitution
pub mod Schedule
pub mod Cipher
pub mod Bytes
