-- The laws that the proofs of this crate's functions cite.
pub mod Numbers
pub mod Judging
pub mod Starting
pub mod Ending
pub mod Trials
