pub mod Readings
pub mod Reaches
pub mod Lists
pub mod Held
pub mod Faults
pub mod Steps
