pub mod Longest
pub mod Fewest
pub mod Edges
pub mod Roundings
