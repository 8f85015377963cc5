-- Laws of the hashes and their masks.
pub mod Hashes
