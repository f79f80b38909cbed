pub mod DistinctIds
pub mod Entries
pub mod Inside
