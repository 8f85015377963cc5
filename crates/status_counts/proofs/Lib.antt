-- Lemmas of this crate.
pub mod Reading
