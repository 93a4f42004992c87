pub mod Facts
pub mod Verdicts
pub mod Unfold
pub mod ProgramFacts
