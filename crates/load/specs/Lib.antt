pub mod Load
pub mod StreamLaws
pub mod LoadLaws
