pub mod Paths
pub mod Names
pub mod Pieces
pub mod Codes
pub mod Frames
pub mod Code
pub mod CodeLaws
