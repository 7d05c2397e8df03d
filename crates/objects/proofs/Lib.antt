pub mod Sizes
pub mod Fuel
pub mod Counts
pub mod Half
pub mod Examples
pub mod Chain
pub mod Append
pub mod Reading
