pub mod Holder
pub mod Identity
pub mod Price
pub mod Side
pub mod Tick
pub mod TwoWords
