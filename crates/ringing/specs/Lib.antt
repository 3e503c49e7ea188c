pub mod NoRinging
pub mod NeverNegative
pub mod Rings
