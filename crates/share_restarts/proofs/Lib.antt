pub mod Emptied
pub mod Sure
