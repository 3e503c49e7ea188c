pub mod Literals
pub mod Names
pub mod Filters
