pub mod ProgramWordsLaws
pub mod Steps
pub mod Heights
pub mod Exhibits
pub mod Laws
pub mod Decide
