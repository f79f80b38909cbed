pub mod Sides
pub mod Pieces
pub mod Coding
