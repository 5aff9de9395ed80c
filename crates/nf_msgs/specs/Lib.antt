pub mod Answers
pub mod AnswerSteps
pub mod MessageParts
pub mod Nodes
pub mod Exports
pub mod KeptUnits
pub mod Orders
