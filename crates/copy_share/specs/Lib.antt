pub mod Copy
pub mod Share
pub mod ShareTable
