-- What each of the two calls answers, for all that it may be lent.
pub mod Asked
pub mod Sign
pub mod Verify
pub mod Theorems
pub mod InnerRefusals
pub mod InnerSteps
