pub mod EntryPlaces
pub mod OffsetFormula
pub mod PlacesCode
pub mod Agreement
pub mod OnlyTable
pub mod Cases
pub mod Theorems
