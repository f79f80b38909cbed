pub mod Views
pub mod ModuleCode
