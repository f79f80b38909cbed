pub mod FaultLaws
pub mod ListLaws
pub mod StepLaws
pub mod HeldLaws
