pub mod VehicleKind
pub mod Vehicle
pub mod Totals
