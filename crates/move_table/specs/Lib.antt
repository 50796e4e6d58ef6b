pub mod Entries
pub mod Tables
pub mod Cases
pub mod Laws
