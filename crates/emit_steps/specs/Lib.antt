pub mod Emitted
pub mod StepLaws
pub mod ProgramLaws
