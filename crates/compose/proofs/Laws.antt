-- Laws about the stream that roles and numbers write: it is that of the program that the text means (02 §1).
pub mod WaitingLaws
pub mod WritingExpLaws
pub mod WritingLaws
pub mod FitsLaws
pub mod StandingLaws
pub mod HeldLaws
pub mod RangedLaws
pub mod MeantRangedLaws
pub mod HeaderLaws
pub mod RowsLaws
pub mod StreamLaws
