-- Laws of `text_wide` that belong to no one function.
pub mod Wide
pub mod Examples
