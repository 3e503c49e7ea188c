pub mod Slots
pub mod Casts
pub mod Bounds
pub mod Largest
pub mod Table
