-- What the contracts of this crate, and of those above it, say of the two hashes.
pub mod Hashes
