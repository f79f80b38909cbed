pub mod Chain
pub mod Looks
pub mod Soundness
pub mod StoreViews
pub mod ChainLaws
pub mod ChangeLaws
