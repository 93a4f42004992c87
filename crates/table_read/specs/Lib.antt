pub mod Params
pub mod Laid
pub mod Told
pub mod TableTold
pub mod Refer
pub mod ProgramTables
pub mod Laws
