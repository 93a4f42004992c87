pub mod Ready
pub mod Moving
pub mod Running
pub mod Going
pub mod Laws
