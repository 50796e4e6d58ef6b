pub mod Cases
pub mod Laws
pub mod Shelves
pub mod Shown
pub mod Views
