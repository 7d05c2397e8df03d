pub mod Nest
pub mod Data
pub mod Examples
