pub mod Exchange
pub mod Sideways
pub mod Statements
