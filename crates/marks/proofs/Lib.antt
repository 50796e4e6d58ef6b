pub mod BlocksCode
pub mod CopiesCode
pub mod CountsCode
pub mod MarkSets
pub mod MarkWords
pub mod MarksByDisk
pub mod Searches
pub mod WordsCode
