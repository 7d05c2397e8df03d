pub mod Compared
pub mod Kept
