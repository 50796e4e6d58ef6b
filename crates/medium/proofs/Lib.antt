pub mod Places
pub mod Cuts
pub mod Theorems
pub mod MediumCode
