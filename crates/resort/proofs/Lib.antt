pub mod Insertion
pub mod Relinks
pub mod SortPass
