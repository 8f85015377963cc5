-- Laws of the two calls, and the theorems about them.
pub mod Parts
pub mod Writing
pub mod Theorems
pub mod Examples
pub mod Numbers
