pub mod Parts
pub mod PartsLaws
pub mod LineLaws
pub mod WriteLaws
pub mod FixLaws
pub mod Told
pub mod TellLaws
