pub mod Made
pub mod Lent
pub mod Taken
