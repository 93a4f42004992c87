pub mod Verdict
pub mod ProgramInput
