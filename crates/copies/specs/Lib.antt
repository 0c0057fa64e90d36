pub mod Below
pub mod Questions
pub mod Seen
pub mod Shape
pub mod View
