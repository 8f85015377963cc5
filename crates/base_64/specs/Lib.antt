-- RFC 4648, section 4, and what the contracts say by it.
pub mod Alphabet
pub mod Encoding
pub mod Decoding
pub mod InnerAnswers
pub mod InnerSteps
