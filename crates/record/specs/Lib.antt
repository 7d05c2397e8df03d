pub mod Entries
pub mod Claim
pub mod Worked
