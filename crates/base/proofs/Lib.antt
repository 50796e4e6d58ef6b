pub mod Bits
pub mod Booleans
pub mod Counting
pub mod Lists
pub mod Lowest
pub mod Refusals
pub mod Theorems
