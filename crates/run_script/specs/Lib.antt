pub mod Lines
pub mod Chips
pub mod Sessions
pub mod Reports
