pub mod Samples
pub mod Weights
pub mod Prices
