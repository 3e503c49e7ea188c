pub mod Count
pub mod Negative
