pub mod Ways
pub mod WayFields
pub mod NoteCounts
pub mod Work
pub mod LinkTable
pub mod Round
pub mod Groups
