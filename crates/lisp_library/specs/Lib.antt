pub mod Parts
pub mod Uncurried
