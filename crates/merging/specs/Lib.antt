pub mod Merged
pub mod Named
