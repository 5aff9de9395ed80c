pub mod Transfers
pub mod Ends
pub mod Inside
pub mod Knowledge
