pub mod Contents
pub mod Links
pub mod Good
pub mod Examples
