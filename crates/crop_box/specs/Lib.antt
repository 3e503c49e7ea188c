pub mod End
pub mod Crop
