pub mod Lengths
pub mod Places
pub mod CellLaws
pub mod PageLaws
pub mod Theorems
pub mod LinesCode
pub mod PagesCode
