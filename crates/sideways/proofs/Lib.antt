pub mod FrameLaws
pub mod ExchangeLaws
pub mod Answers
pub mod Sideways
pub mod Example
