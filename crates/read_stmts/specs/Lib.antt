pub mod Done
pub mod StmtWays
pub mod RowWays
pub mod DoneWays
