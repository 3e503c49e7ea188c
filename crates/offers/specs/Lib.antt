pub mod Repair
pub mod Own
