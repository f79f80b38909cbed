pub mod Faults
pub mod Views
pub mod Symbols
pub mod Entries
pub mod Steps
pub mod Asking
pub mod Walks
pub mod TakenApart
