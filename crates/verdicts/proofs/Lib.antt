pub mod Numbers
pub mod Decisions
