-- The definitions of `text_holders`.
pub mod Holders
