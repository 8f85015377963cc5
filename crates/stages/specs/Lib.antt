-- What a request lends, its checks from the value on, the refusals' numbers, and what the code's stages answer by them: document 01.
pub mod Request
pub mod Checks
pub mod InnerRefusals
pub mod Parts
pub mod InnerStages
