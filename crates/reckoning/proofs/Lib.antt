pub mod Asking
pub mod Bounds
pub mod Brakings
pub mod Permitting
