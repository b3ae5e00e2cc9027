-- Laws of `text_buffer` that belong to no one function.
pub mod Writing
pub mod Digits
pub mod Examples
