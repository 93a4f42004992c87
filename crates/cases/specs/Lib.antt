pub mod Cases
pub mod CasesLaws
