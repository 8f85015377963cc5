-- The netstring layout (D. J. Bernstein, "Netstrings", 1997).
pub mod Netstring
pub mod InnerOpening
pub mod InnerReading
