pub mod OperationLookUps
pub mod WrittenOperations
pub mod LowestShares
pub mod OtherMessages
pub mod EndedTurns
