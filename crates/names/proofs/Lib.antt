-- The laws that callers' proofs cite, and those of this crate's own functions.
pub mod Same
pub mod Has
pub mod Apart
pub mod Listed
pub mod Walk
pub mod Sizes
pub mod Joined
pub mod Tokens
pub mod Starts
pub mod Latest
pub mod Sought
pub mod Entering
pub mod Filled
