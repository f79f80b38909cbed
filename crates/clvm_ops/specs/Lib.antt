pub mod Answering
pub mod OperandAtoms
pub mod Folds
pub mod KindFaults
