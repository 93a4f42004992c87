pub mod RecordsWays
pub mod RecordsLaws
