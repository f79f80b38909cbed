pub mod AddedLaws
pub mod HashLaws
