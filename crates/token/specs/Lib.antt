pub mod State
pub mod Limits
pub mod After
pub mod Plan
pub mod Step
