pub mod Parts
pub mod Tables
pub mod Start
pub mod Promises
pub mod Report
