pub mod Language
pub mod Lines
pub mod Answers
pub mod Rows
pub mod Whole
