-- The definitions of `text_pieces`.
pub mod Pieces
