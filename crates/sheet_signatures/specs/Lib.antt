-- The definitions of `sheet_signatures`.
pub mod Signatures
