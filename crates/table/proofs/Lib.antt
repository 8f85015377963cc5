-- The laws that callers' proofs cite, and those of this crate's own functions.
pub mod Records
pub mod One
pub mod Ivs
pub mod Scan
pub mod Tests
pub mod Found
pub mod Fitting
pub mod Meaning
pub mod Stored
pub mod Sessions
