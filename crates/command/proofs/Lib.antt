pub mod Shapes
pub mod Groups
pub mod Examples
