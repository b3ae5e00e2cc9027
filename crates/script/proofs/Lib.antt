pub mod OneExecution
pub mod Executions
pub mod ScriptForm
pub mod PrintedSegment
pub mod Queue
