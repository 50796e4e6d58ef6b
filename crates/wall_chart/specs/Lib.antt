pub mod Chart
pub mod Pages
pub mod Laws
