pub mod Sizes
pub mod Exact
pub mod Rounded
pub mod Parts
pub mod Sure
