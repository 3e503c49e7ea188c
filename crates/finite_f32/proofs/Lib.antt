pub mod Decided
pub mod Lanes
pub mod WeightSize
pub mod Flags
pub mod Infinite
