pub mod Parts
pub mod Steps
pub mod Runs
pub mod Tokens
pub mod Standing
pub mod Telling
