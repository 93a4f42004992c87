pub mod Numbers
pub mod Counts
pub mod Tally
pub mod CountEntry
pub mod CountInput
pub mod Rows
