-- Laws of `sheet_lines` that belong to no one function.
pub mod Table
pub mod Examples
