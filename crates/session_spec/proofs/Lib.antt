mod Rows
pub mod AllOf
pub mod ValuesOf
pub mod StartCoins
pub mod WithCoins
pub mod LineParts
mod KindRows
mod HeaderRows
mod ModuleLineRows
mod CommandRows
mod OutputRows
mod ReplayRows
mod MakingRows
