-- HMAC as RFC 2104 has it, over any hash function.
pub mod Hmac
