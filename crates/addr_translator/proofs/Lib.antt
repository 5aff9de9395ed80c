pub mod BodyOrder
pub mod SeenEnds
