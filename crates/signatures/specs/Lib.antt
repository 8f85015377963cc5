-- What the contracts of this crate, and of those above it, say of signed messages.
pub mod Components
pub mod Base
pub mod Fields
pub mod Belongs
pub mod Signable
pub mod InnerAnswers
