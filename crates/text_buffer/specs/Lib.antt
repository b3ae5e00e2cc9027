-- The definitions of `text_buffer`: what a writer into a lent buffer does, and the digits of a number.
pub mod Writing
pub mod Digits
