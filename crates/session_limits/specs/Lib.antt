pub mod SessionLimits
