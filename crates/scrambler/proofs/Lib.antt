pub mod Scramblers
pub mod Stacks
