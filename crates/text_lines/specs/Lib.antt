-- The definitions of `text_lines`.
pub mod Lines
