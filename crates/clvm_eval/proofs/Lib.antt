pub mod PathLaws
pub mod EvaluationLaws
pub mod StateLaws
pub mod FormLaws
pub mod QuickLaws
