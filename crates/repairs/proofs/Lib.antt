pub mod Judged
pub mod Rows
pub mod Taken
pub mod Own
pub mod Examples
pub mod Sure
