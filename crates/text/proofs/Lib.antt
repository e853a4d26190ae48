pub mod Clear
pub mod Numerals
pub mod Cuts
pub mod Patterns
pub mod Sections
pub mod Unique
pub mod Outcomes
pub mod Legible
