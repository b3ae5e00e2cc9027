pub mod Elected
