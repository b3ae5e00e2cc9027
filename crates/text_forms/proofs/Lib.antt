-- Laws of `text_forms` that belong to no one function.
pub mod Forms
pub mod Examples
