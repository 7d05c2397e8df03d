pub mod Digits
pub mod Numbers
pub mod Pairs
pub mod Back
