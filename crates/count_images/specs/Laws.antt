-- Why the entry that counts answers what the definition says (02 §14).
pub mod AskingLaws
pub mod StartLaws
pub mod AnswerLaws
pub mod RefusalLaws
