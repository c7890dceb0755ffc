pub mod Directions
pub mod Splits
pub mod Pieces
pub mod Edges
