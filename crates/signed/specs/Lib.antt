-- What the contracts of this crate, and of those above it, say of the signed text.
pub mod SignedText
pub mod InnerStreamed
