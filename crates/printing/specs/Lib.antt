pub mod Lines
pub mod Puts
