pub mod Whole
pub mod Gathered
