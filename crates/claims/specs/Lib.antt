pub mod Dates
pub mod Values
