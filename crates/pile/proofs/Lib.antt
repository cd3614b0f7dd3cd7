pub mod Pinned
pub mod Together
pub mod Names
pub mod Spelled
pub mod Dotted
pub mod Shown
