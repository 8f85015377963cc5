-- A client's own side: the requests that it makes, what it keeps, and what each of the three calls answers, for all that it may be lent.
pub mod Requests
pub mod State
pub mod Begin
pub mod Sign
pub mod Hear
pub mod InnerRefusals
pub mod InnerSteps
