pub mod BindingLaws
pub mod OperandLaws
pub mod BodyLaws
pub mod CallLaws
pub mod MacroLaws
pub mod WalkLaws
