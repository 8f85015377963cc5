-- The laws that callers' proofs cite, and those of this crate's own functions.
pub mod Tests
pub mod Runs
pub mod Cuts
pub mod Laid
pub mod Spans
pub mod Numbers
pub mod Digits
pub mod Equality
