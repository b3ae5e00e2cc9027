-- The definitions of `text_forms`.
pub mod Forms
