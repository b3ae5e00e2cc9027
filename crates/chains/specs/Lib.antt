pub mod Chained
pub mod Indices
pub mod Links
pub mod Rank
pub mod Records
