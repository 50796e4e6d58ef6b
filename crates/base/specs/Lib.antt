pub mod Below
pub mod Bits
pub mod Laws
pub mod Refusals
