pub mod Put
pub mod Sums
pub mod Block
pub mod BlockFaults
pub mod BlockBytes
