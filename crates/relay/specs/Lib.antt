pub mod Choice
pub mod Delivery
pub mod Rows
