pub mod TextLaws
pub mod Example
pub mod Sure
