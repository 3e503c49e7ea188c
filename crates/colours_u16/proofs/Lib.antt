pub mod Rule
pub mod Near
pub mod Colours
pub mod Examples
