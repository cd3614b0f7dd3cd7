pub mod Times
pub mod Windows
