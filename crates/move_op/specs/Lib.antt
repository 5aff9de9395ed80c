pub mod Phases
pub mod Table
pub mod Move
