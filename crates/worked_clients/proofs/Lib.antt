pub mod Computed
pub mod Covered
pub mod Computing
pub mod Ours
pub mod Worked
pub mod Broken
pub mod Wrong
pub mod FlushedNeeded
