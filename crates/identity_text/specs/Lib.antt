-- The definitions of `identity_text`.
pub mod Identities
