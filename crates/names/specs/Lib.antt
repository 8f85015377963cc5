-- What the contracts of this crate, and of those above it, say of names.
pub mod Names
pub mod Lists
pub mod Extra
pub mod Covered
pub mod InnerWalk
pub mod InnerSheet
