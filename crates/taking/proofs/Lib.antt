pub mod Links
pub mod Taken
