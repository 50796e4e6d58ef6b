pub mod ClientCalls
pub mod Stations
pub mod TwoRuns
pub mod Parts
pub mod Laws
pub mod CoveredLists
pub mod ClientSaves
pub mod OwnCalls
