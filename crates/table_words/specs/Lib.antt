pub mod TableWords
pub mod TableWordsLaws
