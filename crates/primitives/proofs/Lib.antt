-- What belongs to no one function.
pub mod Sealing
