pub mod Collar
