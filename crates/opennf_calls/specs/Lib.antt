pub mod Again
pub mod Calls
pub mod Ended
pub mod Outcome
pub use Rattle.call_files
pub use Rattle.network_calls.specs.net_world
