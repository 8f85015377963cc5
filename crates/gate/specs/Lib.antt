-- The calls: documents 01 and 02, one function for each from everything that is lent to its outcome.
pub mod State
pub mod Calls
pub mod Sizes
pub mod Entry
pub mod Setup
pub mod Judge
pub mod End
pub mod Remake
pub mod Trial
pub mod InnerSizes
pub mod InnerDecisions
pub mod InnerStarts
pub mod InnerTrials
