pub mod Deliver
pub mod Kinds
