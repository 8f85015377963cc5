-- The token: document 01, 'The X-S-Armor value', and what the contracts say by it.
pub mod Token
pub mod InnerHeld
pub mod InnerExpiry
