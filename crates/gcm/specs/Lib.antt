-- The specification of AES-256-GCM (NIST SP 800-38D), with IVs of 96 bits and tags of 128.
pub mod Multiply
pub mod Ghash
pub mod Gctr
pub mod Gcm
pub mod InnerCode
