pub mod Arrivals
pub mod Corrections
pub mod Perform
pub mod Reads
pub mod Sessions
pub mod Steps
pub mod Whole
