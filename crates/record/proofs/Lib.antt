pub mod Lengths
pub mod Folds
pub mod ColumnLaws
pub mod RecordTests
pub mod SectorLaws
pub mod Theorems
pub mod WriteCode
pub mod ReadCode
