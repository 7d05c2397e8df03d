pub mod Numbers
pub mod Strings
