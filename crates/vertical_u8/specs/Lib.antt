pub mod U8
pub mod Inner
