pub mod HeapLaws
pub mod LetterLaws
pub mod ListLaws
pub mod QueueLaws
pub mod RuleLaws
pub mod TallyLaws
pub mod WantLaws
