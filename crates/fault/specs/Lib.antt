pub mod Refusals
pub mod Names
