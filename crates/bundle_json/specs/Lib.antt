pub mod Codes
pub mod Inside
pub mod Reads
pub mod Pairs
pub mod Between
