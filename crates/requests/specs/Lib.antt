pub mod Clients
pub mod Table
