mod GrammarRows
pub mod BoundLaws
pub mod StepLaws
pub mod ReadLaws
pub mod PlaceLaws
pub mod LineLaws
pub mod CopyLaws
