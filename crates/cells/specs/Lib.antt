-- What the contracts of this crate, and of those above it, say of byte runs.
pub mod Runs
pub mod InnerRun
pub mod InnerLaid
pub mod Spans
pub mod Text
pub mod Numbers
pub mod Decimal
