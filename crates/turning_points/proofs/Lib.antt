pub mod Outcomes
pub mod Turning
