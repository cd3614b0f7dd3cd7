pub mod Taking
pub mod Sense
pub mod Texts
pub mod Pairs
pub mod Digits
pub mod PairsLemmas
