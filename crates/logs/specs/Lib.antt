-- What the contracts of this crate, and of the program over it, say of access logs.
pub mod Line
pub mod Counts
pub mod Printed
pub mod Taken
pub mod InnerParts
pub mod InnerLines
