pub mod Kinds
pub mod Drags
