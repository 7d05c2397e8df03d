pub mod Facts
pub mod Rule
pub mod Judged
