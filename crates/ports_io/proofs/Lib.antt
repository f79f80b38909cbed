pub mod KnownLemmas
pub mod OutsideLemmas
