pub mod Published
pub mod Rules
pub mod Stops
pub mod Machine
pub mod Represents
pub mod Performed
pub mod Heads
pub mod Measure
