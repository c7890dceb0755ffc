pub mod Hex
pub mod Lines
pub mod FirstLines
pub mod CommandLines
pub mod Words
