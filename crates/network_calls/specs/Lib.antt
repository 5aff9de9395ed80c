pub mod Ends
pub mod FailRuns
pub mod NetworkRuns
pub mod RunSteps
pub mod StrongRuns
pub mod UpdateRuns
pub use Rattle.net_world
pub use Rattle.run_headline
