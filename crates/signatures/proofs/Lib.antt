-- Laws of signed messages.
pub mod Names
pub mod Pieces
pub mod Readback
pub mod Once
pub mod Alike
pub mod Values
pub mod Told
