-- Examples of arguments.
pub mod Examples
