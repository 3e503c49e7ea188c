pub mod FromZero
pub mod EndRest
pub mod EndLaws
pub mod Sure
pub mod Rows
pub mod Examples
