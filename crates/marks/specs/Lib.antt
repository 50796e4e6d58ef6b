pub mod Marks
pub mod Words
