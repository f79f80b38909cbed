mod Rows
mod CodecRows
mod BorderRows
pub mod HeadLaws
pub mod FrontLaws
pub mod NumberLaws
pub mod SpellingLaws
pub mod PrefixLaws
pub mod SpelledLaws
pub mod FaultLaws
pub mod ShortestLaws
pub mod LengthLaws
pub mod WholeLaws
pub mod Cases
mod EvaluationRows
mod OperatorRows
mod TextRows
mod ColumnRows
pub mod SpendingLaws
pub mod Steady
pub mod Steps
pub mod Columns
pub mod OperatorCosts
pub mod Floor
pub mod RemainderLaws
pub mod ScanLaws
pub mod GrammarLaws
pub mod FreePlaces
pub mod AtomTextLaws
pub mod PrintedLaws
pub mod PathLaws
pub mod CurryingLaws
mod CurryingRows
pub mod ListLaws
