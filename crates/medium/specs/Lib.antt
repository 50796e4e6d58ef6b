pub mod Medium
pub mod Laws
