-- Laws of values put one behind the other, and of a turn over a signature's letters.
pub mod Putting
pub mod Letters
