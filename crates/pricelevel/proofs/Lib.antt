pub mod Bools
pub mod Identity
pub mod Numbers
