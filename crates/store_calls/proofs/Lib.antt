pub mod Asked
pub mod Cancel
pub mod ClearedStore
