-- Laws of words and texts, and examples.
pub mod Turns
pub mod Within
pub mod Examples
