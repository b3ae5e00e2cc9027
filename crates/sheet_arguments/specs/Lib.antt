-- The definitions of `sheet_arguments`.
pub mod Arguments
