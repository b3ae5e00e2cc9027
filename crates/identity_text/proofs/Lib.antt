-- Laws of `identity_text` that belong to no one function.
pub mod Identities
pub mod Examples
