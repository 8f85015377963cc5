-- Check 8 of document 01.
pub mod Coverage
pub mod InnerTold
