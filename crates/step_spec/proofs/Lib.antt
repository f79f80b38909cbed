pub mod HistoryLaws
pub mod PricedLaws
mod StepRows
