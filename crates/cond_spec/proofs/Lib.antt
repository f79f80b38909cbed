pub mod ConditionRows
mod FaultRows
