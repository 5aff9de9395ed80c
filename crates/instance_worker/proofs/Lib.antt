pub mod PieceLemmas
pub mod PieceLaws
pub mod HeldPackets
pub mod TakenChunks
