pub mod Reopens
pub mod Orders
pub mod Sums
