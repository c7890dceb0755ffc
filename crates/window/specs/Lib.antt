pub mod Sizes
pub mod Windows
pub mod Laws
