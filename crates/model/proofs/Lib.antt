pub mod Ranges
pub mod Arms
pub mod IsChip
