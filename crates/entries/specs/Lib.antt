pub mod Compare
pub mod Fronts
pub mod Search
