pub mod TransferLemmas
pub mod KnowledgeSteps
