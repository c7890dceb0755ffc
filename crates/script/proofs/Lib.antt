pub mod Numbers
pub mod Openings
pub mod Comes
pub mod Written
pub mod Scripts
