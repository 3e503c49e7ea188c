pub mod Literals
pub mod NameLaws
pub mod Sure
