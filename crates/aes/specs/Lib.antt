-- The specification of AES-256 (FIPS 197).
pub mod Field
pub mod Sbox
pub mod Cipher
pub mod InnerCode
