pub mod Histories
pub mod Scoreboards
pub mod LastWrites
pub mod Twins
pub mod Shorts
pub mod Serving
