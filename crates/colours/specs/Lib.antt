pub mod Alpha
pub mod Steps
