pub mod Weighing
pub mod Voices
