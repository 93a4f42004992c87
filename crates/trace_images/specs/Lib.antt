pub mod Pages
pub mod PageLaws
pub mod AnswerLaws
pub mod Telling
pub mod TellingLaws
pub mod SettlingWays
pub mod PlayWays
