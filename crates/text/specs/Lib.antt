pub mod Listing
pub mod ListingLaws
pub mod TextLaws
pub mod CommandText
pub mod CommandTextLaws
pub mod Decimals
pub mod DecimalLaws
pub mod Rows
