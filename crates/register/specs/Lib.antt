pub mod Codes
pub mod Registers
pub mod Table
pub mod Written
