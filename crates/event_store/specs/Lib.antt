pub mod Store
pub mod Queues
