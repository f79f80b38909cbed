pub mod CostLaws
pub mod OutputLaws
pub mod PuzzleLaws
