pub mod Masks
pub mod Rules
pub mod Groups
pub mod Sections
pub mod Spans
