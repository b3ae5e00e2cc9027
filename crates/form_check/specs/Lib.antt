pub mod Check
pub mod Keys
