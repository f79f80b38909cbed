pub mod Readings
pub mod Faults
pub mod Kinds
