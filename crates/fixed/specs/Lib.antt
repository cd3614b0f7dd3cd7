pub mod Items
pub mod Spelling
pub mod Names
pub mod Rosters
