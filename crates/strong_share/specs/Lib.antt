pub mod Parts
pub mod Tables
pub mod Start
pub mod Words
pub mod Runs
pub mod Promises
pub mod Report
