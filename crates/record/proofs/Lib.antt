pub mod Words
pub mod Agree
pub mod Decide
pub mod Ran
pub mod Spelt
pub mod Examples
