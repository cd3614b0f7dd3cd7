pub mod Folds
pub mod Digits
