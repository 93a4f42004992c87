pub mod Total
pub mod Own
pub mod OwnLaws
pub mod TotalWays
pub mod Whole
pub mod WholeWays
