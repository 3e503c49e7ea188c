pub mod FromAbove
pub mod AddAway
pub mod Overflow
pub mod SignBack
pub mod Narrowed
pub mod Fast
pub mod SumLaws
