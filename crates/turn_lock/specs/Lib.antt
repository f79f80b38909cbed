pub mod Makers
pub mod Rule
pub mod Steps
pub mod Hands
