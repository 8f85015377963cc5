-- Laws that several theorems cite.
pub mod Checks
pub mod Order
pub mod Answers
pub mod Stored
pub mod Named
pub mod TakenOut
pub mod Passed
pub mod Carried
pub mod Indexes
pub mod Others
