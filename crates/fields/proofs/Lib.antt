pub mod Ways
pub mod Facts
pub mod Examples
