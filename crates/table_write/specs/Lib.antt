pub mod Written
pub mod WrittenWays
pub mod WriteStands
