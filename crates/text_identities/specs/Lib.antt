-- The definitions of `text_identities`.
pub mod Identities
