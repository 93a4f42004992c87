pub mod Lines
pub mod RowLines
pub mod RowLinesLaws
pub mod ListedLaws
pub mod DirectoryLinesLaws
