pub mod Coins
pub mod Told
