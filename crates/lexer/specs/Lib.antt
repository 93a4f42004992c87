pub mod RunLaws
pub mod SpotLaws
pub mod FrontSpots
pub mod WordFirst
pub mod WordFirstLaws
pub mod Gaps
pub mod GapLaws
