-- The theorems: Untouched (demand 1), History (demand 2), Agreement (demand 3), Cases (document 01's twelve), Determined (document 01, 'How far
-- each contract reaches'), Client (what is asked of a request can be met), Age (how long a request is taken),
-- Chosen (an accepted request has its session's hash), Index (document 02, K7), Struck (what other sessions' calls cannot do),
-- Trial (document 02, K11), Arrival (document 02, K12), Scanner (document 02, K14) and Witnesses (no number of its list is idle). A theorem's own laws stand in the folder of its name.
pub mod Shared
pub mod Untouched
pub mod History
pub mod Agreement
pub mod Cases
pub mod Determined
pub mod Client
pub mod Age
pub mod Chosen
pub mod Index
pub mod Struck
pub mod Trial
pub mod Arrival
pub mod Scanner
pub mod Witnesses
