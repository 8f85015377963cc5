-- The laws that callers' proofs cite, and those of this crate's own functions.
pub mod Times
pub mod Bits
pub mod Steps
pub mod Next
pub mod Tracks
pub mod Exactly
pub mod Arrival
