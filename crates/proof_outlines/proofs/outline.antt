-- What the proof of the network sees of each node's step and of each message.
pub mod ControlOutline
pub mod ControllerWays
pub mod CopyTurns
pub mod FiltersApart
pub mod InstanceOutline
pub mod InstanceWays
pub mod LinkOutline
pub mod MoveOutline
pub mod MoveRows
pub mod OperationTables
pub mod Outline
pub mod StateOutline
pub mod SwitchWays
