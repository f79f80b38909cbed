pub mod PathLaws
pub mod CodingLaws
pub mod NameLookups
