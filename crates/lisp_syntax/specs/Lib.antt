pub mod Scopes
pub mod Marks
pub mod Faults
pub mod Shapes
pub mod Tasks
