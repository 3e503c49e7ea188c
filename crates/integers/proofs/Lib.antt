pub mod Parts
pub mod Floors
pub mod Sums
pub mod Clips
pub mod Width
