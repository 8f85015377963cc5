-- The laws that callers' proofs cite, and those of this crate's own functions.
pub mod States
pub mod Kept
pub mod Values
pub mod Drafts
pub mod Calls
pub mod Steps
pub mod Theorems
