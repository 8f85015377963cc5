-- Document 01, The X-S-Armor value, and what the contracts say by it.
pub mod Numerals
pub mod Pieces
pub mod Keys
pub mod Value
pub mod Fields
pub mod InnerAnswers
pub mod InnerTallies
pub mod InnerScan
