pub mod Moving
pub mod Pinned
