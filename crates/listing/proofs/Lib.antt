pub mod Along
pub mod Choices
pub mod Leaders
pub mod Listed
pub mod Notes
pub mod Sets
pub mod Walked
