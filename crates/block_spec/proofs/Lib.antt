pub mod AddedLaws
pub mod WrittenLaws
mod ReadingRows
