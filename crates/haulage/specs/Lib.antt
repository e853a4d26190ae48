pub mod Limits
pub mod Haulings
pub mod Haulers
