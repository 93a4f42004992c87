pub mod Operators
pub mod Rounding
pub mod Apply
pub mod Ranges
pub mod Unfold
pub mod Rows
pub mod Words
pub mod Named
