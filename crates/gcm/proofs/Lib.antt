-- The theorems of sealing and opening, the laws that callers' proofs cite, and those of this crate's own functions.
pub mod Opening
pub mod Addition
pub mod Product
pub mod Blocks
pub mod Masking
pub mod Hashing
pub mod SealedBytes
