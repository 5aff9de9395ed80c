pub mod Work
pub mod NetworkWorld
pub mod TokenWorlds
pub mod Choosers
pub mod Faults
