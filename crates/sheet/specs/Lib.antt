pub mod Answer
pub mod Keys
pub mod Text
