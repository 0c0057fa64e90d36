pub mod Below
pub mod Chains
pub mod Fitting
pub mod Room
