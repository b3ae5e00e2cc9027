pub mod AlikeWords
pub mod EndsAndRun
