-- Laws of the table's rows.
pub mod Turns
