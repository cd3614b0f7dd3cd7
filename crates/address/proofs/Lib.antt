pub mod Patterns
pub mod Chained
pub mod Exclusions
pub mod Choices
pub mod Firsts
