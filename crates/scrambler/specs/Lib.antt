pub mod Scramblers
pub mod Laws
pub mod Stacks
