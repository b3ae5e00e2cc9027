-- The definitions of `text_wide`.
pub mod Wide
