pub mod Lists
pub mod Disagreement
pub mod Pairs
pub mod Walking
pub mod Clashing
pub mod Places
