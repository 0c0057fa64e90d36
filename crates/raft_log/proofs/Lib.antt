pub mod Kept
pub mod Meaning
