pub mod Entries
pub mod Notes
pub mod Soundness
pub mod Lending
