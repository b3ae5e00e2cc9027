pub mod ChainsOf
pub mod StoredNumbers
pub mod Search
pub mod Sums
pub mod EmptyWords
