pub mod Ready
pub mod BeginWays
pub mod CountWays
pub mod Makes
pub mod MoveWays
pub mod ReadyLaws
