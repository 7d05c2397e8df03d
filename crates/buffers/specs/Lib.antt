pub mod Lay
pub mod Room
pub mod Laid
