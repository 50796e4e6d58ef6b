pub mod Spans
pub mod Cases
pub mod Laws
