pub mod ClassLaws
pub mod MarkLaws
pub mod PlaceLaws
