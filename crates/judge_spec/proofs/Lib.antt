pub mod CheckLaws
pub mod AgreementLaws
pub mod PartLaws
pub mod FactLaws
pub mod FineLaws
pub mod FineCoins
pub mod ConnectLaws
pub mod GrowthLaws
mod BlockRows
mod FineRows
mod PairRows
pub mod RowParts
mod RuleRows
