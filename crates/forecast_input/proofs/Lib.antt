pub mod FirstBytes
pub mod WordCounts
pub mod Split
pub mod Words
