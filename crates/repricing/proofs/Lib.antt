pub mod Examples
pub mod Preview
pub mod Previewed
