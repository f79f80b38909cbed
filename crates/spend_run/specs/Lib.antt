pub mod Breaches
pub mod Found
pub mod Items
pub mod Outputs
pub mod Readings
