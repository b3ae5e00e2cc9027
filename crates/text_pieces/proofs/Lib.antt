-- Laws of `text_pieces` that belong to no one function.
pub mod Pieces
pub mod Examples
