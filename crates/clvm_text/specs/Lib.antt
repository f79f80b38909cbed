pub mod Positions
pub mod Forms
pub mod Codes
pub mod Parsing
pub mod Scans
