pub mod Writing
pub mod Checks
pub mod Fits
pub mod Standing
pub mod Ranged
pub mod Header
pub mod Composed
