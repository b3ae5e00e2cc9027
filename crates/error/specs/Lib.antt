pub mod Answer
pub mod Questions
pub mod Refusal
pub mod Verdict
