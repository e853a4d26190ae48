pub mod Drags
pub mod Printed
pub mod Samples
pub mod Told
