pub mod DigitLaws
pub mod Sure
