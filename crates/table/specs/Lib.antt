pub mod Table
pub mod TableFaults
pub mod TableReader
pub mod Sizes
pub mod Refusing
pub mod Rows
