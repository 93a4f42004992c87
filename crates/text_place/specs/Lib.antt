pub mod Place
pub mod NamedLaws
pub mod PlaceLaws
pub mod DeadLaws
