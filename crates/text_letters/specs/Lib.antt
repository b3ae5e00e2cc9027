-- The definitions of `text_letters`.
pub mod Letters
