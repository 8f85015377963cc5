-- What the demands speak of: of demand 1 Order, Tables and Effects, of demand 2 History and Passing, of demand 3 Passing and Agreement; a request that meets what they ask: Client;
-- how long it is taken: Age; a session looked up through the index: Lookup; calls struck out of a history: Struck; a client's request that is tried: Trial; one session's requests in two orders: Arrival;
-- a scanner of ours and its gate: Scanner.
pub mod Order
pub mod Tables
pub mod Effects
pub mod History
pub mod Passing
pub mod Agreement
pub mod Combined
pub mod Client
pub mod Age
pub mod Lookup
pub mod Struck
pub mod Trial
pub mod Arrival
pub mod Scanner
