pub mod Lines
pub mod Performed
pub mod Run
pub mod Sorts
