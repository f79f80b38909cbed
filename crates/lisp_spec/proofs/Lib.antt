pub mod BodySteps
pub mod ExpansionSteps
pub mod BodyShifts
pub mod ExpansionShifts
pub mod Settled
pub mod MacroCases
mod ExpansionRows
mod TurnRows
pub mod Reading
pub mod Sources
mod MeaningRows
pub mod ModuleCases
mod ModuleRows
mod ModulePartRows
mod ModuleLimitRows
mod IncludedTextRows
mod TextMeaningRows
mod BuiltInRows
mod FaultTextRows
pub mod MeaningProofs
pub mod ModuleProofs
pub mod ConstantProofs
pub mod ConstantsOfModules
pub mod NamesFound
pub mod Widening
pub mod OperatorCodes
pub mod Soundness
pub mod Extending
pub mod BoundProofs
pub mod WalkProofs
pub mod CycleProofs
pub mod NestingProofs
pub mod InclusionProofs
