pub mod Table
pub mod Chunks
pub mod Entries
pub mod Refusals
pub mod Keeping
