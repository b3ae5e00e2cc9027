-- The definitions of `sheet_words`.
pub mod Words
