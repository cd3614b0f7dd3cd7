pub mod Blocks
pub mod Entries
pub mod Choices
pub mod Addresses
pub mod Labels
