-- What each exported primitive answers, for all that it may be lent.
pub mod Answer
pub mod Digests
pub mod Sealing
