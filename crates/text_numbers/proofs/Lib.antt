-- Laws of numbers, and examples.
pub mod Digits
pub mod Counts
pub mod Examples
pub mod Enough
pub mod ReadBack
