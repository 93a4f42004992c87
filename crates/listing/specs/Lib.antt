pub mod Listings
pub mod ImageLaws
pub mod Rows
