pub mod Examples
pub mod Kept
