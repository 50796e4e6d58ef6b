pub mod Loads
pub mod Steps
pub mod Cases
pub mod Laws
