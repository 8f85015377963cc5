-- The laws that callers' proofs cite, and those of this crate's own functions.
pub mod Fronts
pub mod Text
pub mod Exactly
pub mod Digits
pub mod Reading
