-- Laws of `text_parts` that belong to no one function.
pub mod Parts
