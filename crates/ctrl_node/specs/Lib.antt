pub mod Operations
pub mod ShareIndex
pub mod Controller
