pub mod Whole
pub mod Narrowed
pub mod Inner
pub mod Window
