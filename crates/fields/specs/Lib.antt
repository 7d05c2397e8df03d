pub mod Given
pub mod Choice
pub mod Held
pub mod Issuers
pub mod Announce
pub mod Chip
pub mod Plain
pub mod Asked
