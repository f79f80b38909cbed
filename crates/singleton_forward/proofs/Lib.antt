pub mod CheckLaws
pub mod LayerLaws
pub mod NumberLaws
pub mod OutputLaws
pub mod RunLaws
pub mod ShapeLaws
pub mod SpelledLaws
