-- Laws of `text_lines` that belong to no one function.
pub mod Lines
pub mod Examples
