pub mod Entering
pub mod Finding
pub mod Sure
