-- Laws of identities, and examples.
pub mod Spellings
pub mod Examples
