pub mod Made
pub mod PartLaws
pub mod Names
