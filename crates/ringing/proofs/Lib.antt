pub mod Windows
pub mod Passes
pub mod Clear
pub mod NeverNegative
pub mod Rings
