pub mod Keys
pub mod Text
