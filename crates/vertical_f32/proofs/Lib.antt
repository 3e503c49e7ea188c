pub mod Turns
pub mod Values
pub mod Judged
pub mod Sure
