pub mod WordLaws
pub mod Sure
