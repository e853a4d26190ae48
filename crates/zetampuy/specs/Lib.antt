pub mod Codes
pub mod Handle
pub mod Held
