pub mod Numerals
pub mod Fields
pub mod Texts
pub mod Sorts
pub mod Files
pub mod Outcomes
