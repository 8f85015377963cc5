-- What the contracts of this crate, and of those above it, say of times and of the window.
pub mod Time
pub mod Window
pub mod History
