pub mod Steps
pub mod CoinId
pub mod Atoms
pub mod IdLists
