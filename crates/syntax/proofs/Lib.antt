pub mod Laws
pub mod SumRows
