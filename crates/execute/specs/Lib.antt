pub mod Ready
pub mod PerformWays
pub mod ReadyLaws
