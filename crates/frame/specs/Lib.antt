pub mod Pages
pub mod OpeningBytes
pub mod Bursts
pub mod Orders
pub mod Low
pub mod Letters
pub mod Spans
