-- The laws that callers' proofs cite, and those of this crate's own functions.
pub mod Listed
pub mod Alphabet
pub mod Groups
pub mod Exactly
pub mod Encoded
pub mod Measuring
pub mod Filling
