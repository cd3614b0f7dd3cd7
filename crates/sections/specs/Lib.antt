pub mod Meeting
pub mod Heads
pub mod Routes
pub mod Classes
pub mod Targets
pub mod Conditions
pub mod Actions
