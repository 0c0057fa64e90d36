pub mod Found
pub mod Parting
