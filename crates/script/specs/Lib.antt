pub mod Numbers
pub mod Openings
pub mod Commands
pub mod Scripts
