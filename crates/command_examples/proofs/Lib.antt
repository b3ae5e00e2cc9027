-- Lines as theorems, which the checker computes.
pub mod Rows
pub mod Faults
