pub mod Laws
pub mod Exhibits
