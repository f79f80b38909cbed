mod AdmissionRows
mod AssemblyRows
pub mod FirstLaws
pub mod FitLaws
mod FitRows
mod LineageRows
pub mod PriceLaws
mod RateRows
pub mod ReplacedLaws
pub mod RowParts
mod ShapeRows
mod SingletonRows
