-- The laws that callers' proofs cite, and those of this crate's own functions.
pub mod Numerals
pub mod Pieces
pub mod Keys
pub mod Value
pub mod Scan
pub mod Noting
pub mod Texts
pub mod Requests
pub mod Lying
pub mod Replies
pub mod Cases
pub mod Carried
pub mod Laying
