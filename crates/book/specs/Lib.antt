pub mod Drawing
pub mod Contradictions
pub mod Runs
pub mod Books
