pub mod Written
pub mod Leaf
pub mod Parts
pub mod Rows
pub mod Laws
