pub mod PlaceLaws
pub mod ReplacedLaws
