pub mod Commands
pub mod Steps
pub mod Histories
pub mod StepLaws
