pub mod Exhibits
pub mod AnswerRows
pub mod Laws
