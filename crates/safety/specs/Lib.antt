pub mod Example
pub mod Runs
