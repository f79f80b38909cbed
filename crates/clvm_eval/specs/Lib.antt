pub mod Runs
pub mod OpenForms
pub mod Steps
pub mod Paths
pub mod Quick
