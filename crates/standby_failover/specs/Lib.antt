pub mod Failover
pub mod Stepping
pub mod Causes
pub mod Lines
pub mod Scenes
