-- The laws of this crate's functions, and the theorems over its definitions.
pub mod Texts
pub mod Parts
pub mod Statuses
pub mod Lines
pub mod Counting
pub mod States
pub mod OneStatus
pub mod Theorems
pub mod Printing
pub mod Examples
