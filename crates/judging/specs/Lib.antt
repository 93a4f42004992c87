pub mod CodeOps
pub mod CodeDigits
