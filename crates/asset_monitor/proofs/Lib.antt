pub mod AdjacentServices
pub mod BodyOrder
