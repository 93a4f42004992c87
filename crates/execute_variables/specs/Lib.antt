pub mod Change
pub mod VarWays
