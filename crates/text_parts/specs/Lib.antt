-- The definitions of `text_parts`.
pub mod Parts
