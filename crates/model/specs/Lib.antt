pub mod Contents
pub mod Latency
pub mod Store
pub mod Step
pub mod Fresh
pub mod Wins
pub mod OneOutcome
