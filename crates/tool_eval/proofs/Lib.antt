pub mod RunWords
pub mod Spellings
