pub mod Within
pub mod Doubles
pub mod Halves
