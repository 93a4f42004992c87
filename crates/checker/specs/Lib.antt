pub mod Answer
pub mod CheckLaws
