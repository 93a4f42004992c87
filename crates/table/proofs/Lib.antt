pub mod TableRefusing
pub mod Laws
