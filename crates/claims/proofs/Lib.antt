pub mod Claim
pub mod Dates
