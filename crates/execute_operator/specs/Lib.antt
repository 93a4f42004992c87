pub mod OperWays
