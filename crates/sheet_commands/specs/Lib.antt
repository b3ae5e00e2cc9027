-- The definitions of `sheet_commands`: the table of commands, and the command that a line is.
pub mod Grammar
pub mod Commands
