pub mod Framed
pub mod Counting
pub mod Laws
