-- SHA-256 and SHA-512 as FIPS 180-4 has them, and what a state that takes in a message stands for.
pub mod Word
pub mod Numbers
pub mod Constants
pub mod Block
pub mod Hash
pub mod InnerTaken
pub mod InnerWords
pub mod InnerTurned
