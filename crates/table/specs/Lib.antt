-- What the contracts of this crate, and of those above it, say of records and of the session table.
pub mod Record
pub mod Table
pub mod Session
pub mod WellFormed
