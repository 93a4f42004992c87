pub mod Images
pub mod Faults
pub mod Answers
