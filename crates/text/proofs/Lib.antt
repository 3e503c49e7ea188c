pub mod TextLaws
pub mod WordLaws
pub mod Sure
