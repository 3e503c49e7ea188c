pub mod Lists
pub mod Pixels
