pub mod Deciding
pub mod Tallies
