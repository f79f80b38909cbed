pub mod Texts
pub mod Inputs
pub mod Words
pub mod Answers
pub mod Decoded
pub mod Tools
