pub mod Sure
pub mod Rows
pub mod Examples
