pub mod Rules
pub mod Sayings
pub mod Grammar
