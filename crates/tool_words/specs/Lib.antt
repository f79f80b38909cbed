pub mod Rows
pub mod Parser
pub mod Evals
pub mod Curries
pub mod Commands
pub mod Fits
