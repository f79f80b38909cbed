pub mod SpendView
pub mod Attestable
pub mod BundleTree
pub mod Added
pub mod BlockTree
pub mod BlockReading
pub mod BlockLaws
