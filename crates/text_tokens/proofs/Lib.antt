pub mod WordLaws
pub mod EndLaws
