pub mod Sorting
pub mod Lines
pub mod Seen
pub mod Ends
pub mod Pieces
