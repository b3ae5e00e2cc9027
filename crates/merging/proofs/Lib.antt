pub mod Merged
pub mod Merging
pub mod Records
