pub mod RowsLaws
pub mod HeldLaws
pub mod DirectoryLaws
pub mod FindLaws
