pub mod TextRows
pub mod DeepRows
pub mod Laws
