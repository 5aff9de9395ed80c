pub mod Words
pub mod CapturedJobs
pub mod FailLemmas
pub mod LoggedNumbers
pub mod RunLemmas
pub mod RunsEnd
pub mod ScriptedCommands
pub mod ScriptedPoints
