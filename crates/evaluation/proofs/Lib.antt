pub mod Questions
pub mod Outcomes
pub mod Passes
pub mod Rooms
