pub mod Alike
pub mod Done
mod Example
pub mod Fronts
pub mod Masks
pub mod Safe
pub mod Whole
