pub mod Outside
pub mod Memory
pub mod Names
pub mod Texts
