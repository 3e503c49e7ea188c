pub mod Fits
pub mod WeightLaws
pub mod Sure
