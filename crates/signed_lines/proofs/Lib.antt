pub mod LineLaws
pub mod Sure
