pub mod Pieces
pub mod Instance
pub mod Taking
