pub mod Outcomes
pub mod Selected
