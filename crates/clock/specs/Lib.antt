pub mod Times
pub mod Made
pub mod Letters
