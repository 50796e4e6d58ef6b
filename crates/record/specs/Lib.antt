pub mod Decimal
pub mod Sector
pub mod Laws
