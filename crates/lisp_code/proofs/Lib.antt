pub mod Refining
pub mod Refined
pub mod Plain
pub mod PlainRuns
pub mod Enough
pub mod EnoughFuel
pub mod PathLaws
pub mod Depths
pub mod PlainForms
pub mod Eventually
pub mod Making
pub mod Settling
pub mod Fitting
pub mod Corresponding
pub mod Lookups
pub mod Calling
pub mod Forward
pub mod Backward
pub mod Reaching
pub mod Placing
pub mod Balance
pub mod Agreed
pub mod Limits
pub mod Lengths
pub mod Bounds
pub mod HavingCode
mod CodeRows
mod AgreementRows
