pub mod BigEndian
pub mod Pad
pub mod Turns
pub mod Vectors
