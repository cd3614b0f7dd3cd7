pub mod Held
pub mod Letters
pub mod Numbering
pub mod Enrolling
pub mod Lettered
pub mod Cutting
