pub mod Slices
pub mod Judged
pub mod Exactly
pub mod Examples
pub mod Sure
