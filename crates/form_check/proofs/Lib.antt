pub mod Buckets
pub mod Chained
pub mod Counts
pub mod Exact
pub mod Groups
pub mod Keys
pub mod Records
pub mod Walks
