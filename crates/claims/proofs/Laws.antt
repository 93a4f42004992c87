pub mod JoinLaws
pub mod ReportLaws
pub mod MemoryLaws
