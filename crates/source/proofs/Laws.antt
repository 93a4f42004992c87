-- Laws about program text as an input: the order of its numbers, and the image of the program that it means (02 §1).
pub mod SourceLaws
pub mod CauseLaws
pub mod KeptLaws
pub mod NamingLaws
pub mod SteppingLaws
pub mod CheckingLaws
pub mod StreamedLaws
