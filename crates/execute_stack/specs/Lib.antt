pub mod Answers
pub mod StackWays
