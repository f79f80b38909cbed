pub mod Outcomes
pub mod KeyedLaws
pub mod MarkLaws
pub mod ChainSteps
pub mod OrderLaws
pub mod StoreLaws
pub mod UnspentLaws
