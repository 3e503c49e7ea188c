pub mod Sizes
pub mod Sure
