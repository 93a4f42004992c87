pub mod Act
pub mod Plan
pub mod Move
pub mod Choose
pub mod Stands
pub mod Frame
pub mod Fit
