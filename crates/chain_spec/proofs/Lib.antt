pub mod DistinctLaws
pub mod LookLaws
pub mod MoveLaws
pub mod PairLaws
mod StoreRows
