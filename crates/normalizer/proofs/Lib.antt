pub mod Judged
pub mod Left
pub mod Table
pub mod Sure
pub mod Rows
