-- Laws of holders, and examples.
pub mod Packing
pub mod Examples
