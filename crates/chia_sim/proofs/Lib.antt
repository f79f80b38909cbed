mod Turns
mod LineLaws
mod BundleLaws
mod CoinTurns
mod SessionLaws
pub mod Histories
pub mod Endings
