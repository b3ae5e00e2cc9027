pub mod Gathering
pub mod Halving
pub mod Listed
pub mod Named
pub mod Sequenced
