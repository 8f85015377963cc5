-- What the contracts of this crate, and of those above it, say of structured fields' texts.
pub mod Texts
pub mod Reading
pub mod Lists
