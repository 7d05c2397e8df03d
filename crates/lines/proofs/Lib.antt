pub mod Turning
pub mod Tellings
