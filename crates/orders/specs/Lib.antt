-- What the contracts of this crate, and of those above it, say of orders.
pub mod Orders
