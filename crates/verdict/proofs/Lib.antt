pub mod VerdictLaws
pub mod ListLaws
pub mod ProgramInputLaws
pub mod Rows
