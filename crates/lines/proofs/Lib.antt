pub mod Cutting
pub mod Behind
