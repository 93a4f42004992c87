pub mod StepPart
pub mod StepPartLaws
pub mod StepPartWords
