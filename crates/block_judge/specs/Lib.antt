pub mod Amounts
pub mod Breaches
pub mod Costs
pub mod IdSets
pub mod NewCoins
pub mod Signatures
pub mod Verdicts
