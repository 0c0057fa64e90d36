pub mod Corrections
pub mod Faults
pub mod Reads
pub mod Sessions
pub mod Steps
