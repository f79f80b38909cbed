pub mod FormLaws
pub mod ReadingLaws
pub mod PartLaws
pub mod ListingLaws
pub mod KindLaws
