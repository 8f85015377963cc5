-- The laws that callers' proofs cite, and those of this crate's own functions.
pub mod Precedence
pub mod Keys
pub mod Moves
pub mod Coded
pub mod Ranked
pub mod Held
pub mod Fitting
pub mod Finding
pub mod Changed
pub mod Alike
pub mod Kept
pub mod Beside
pub mod Making
