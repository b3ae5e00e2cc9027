pub mod Electing
