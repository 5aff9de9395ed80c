-- A world of a run in which no choice is enabled is at its end.
pub mod AllEnded
pub mod EndSteps
pub mod EndingRuns
pub mod GroundedWorlds
pub mod LinkWeights
pub mod NoMoves
pub mod NoStuckWorld
pub mod TallySteps
pub mod TokenController
pub mod TokenNodes
pub mod TokenRows
pub mod TokenRuns
pub mod Tokens
pub mod WaitingWorlds
