pub mod Judged
pub mod Sure
