pub mod Marks
pub mod Joins
