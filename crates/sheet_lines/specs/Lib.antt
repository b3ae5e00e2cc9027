-- The definitions of `sheet_lines`.
pub mod Rows
pub mod Lines
