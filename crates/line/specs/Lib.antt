pub mod Curve
pub mod Section
