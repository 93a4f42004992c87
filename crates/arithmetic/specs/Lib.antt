pub mod Answered
pub mod Compares
pub mod PastLaws
