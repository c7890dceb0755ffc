pub mod Pairs
pub mod Views
pub mod Openings
