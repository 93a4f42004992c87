-- Laws about runs: the executable run and the published rules agree, and what an entry answers (01, 'The run').
pub mod StepsLaws
pub mod VisitLaws
pub mod EntryStreamLaws
pub mod InputLaws
pub mod RoundLaws
pub mod TurnLaws
pub mod Settles
pub mod FuelLaws
pub mod RunAgrees
pub mod RunsUnique
pub mod HaltLaws
pub mod RunAgreesVisits
pub mod StepTurnsLaws
pub mod BeginLaws
pub mod OutcomeLaws
pub mod AnsweredLaws
