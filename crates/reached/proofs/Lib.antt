pub mod Fits
pub mod Within
pub mod Steps
