-- What the contracts of this crate, and of those above it, say of header lines.
pub mod Lines
pub mod Values
pub mod InnerPlaces
pub mod InnerNotes
