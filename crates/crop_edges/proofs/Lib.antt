pub mod EdgeLaws
pub mod Examples
pub mod Sure
