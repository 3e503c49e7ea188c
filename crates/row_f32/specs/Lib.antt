pub mod Column
pub mod Narrowing
