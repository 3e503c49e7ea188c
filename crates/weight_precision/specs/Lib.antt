pub mod Precision
pub mod Weights
pub mod Bounds
