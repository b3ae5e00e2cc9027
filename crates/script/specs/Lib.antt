pub mod Execute
pub mod Queue
