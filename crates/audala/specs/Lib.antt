pub mod Exported
pub mod Images
pub mod Listed
pub mod Counted
pub mod Handed
