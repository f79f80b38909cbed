pub mod MarkLaws
pub mod ListLaws
pub mod ShapeLaws
pub mod TaskLaws
