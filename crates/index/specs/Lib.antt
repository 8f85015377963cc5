-- What the contracts of this crate, and of those above it, say of the index beside a session table.
pub mod Index
pub mod Fits
pub mod InnerEntries
