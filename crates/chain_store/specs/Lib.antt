pub mod RecordsView
pub mod RecordsInside
pub mod Marks
pub mod Blocks
pub mod Inside
pub mod Unspents
