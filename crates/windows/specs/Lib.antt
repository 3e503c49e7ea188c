pub mod Set
pub mod Store
pub mod Fit
