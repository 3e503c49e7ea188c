pub mod FlatLaws
pub mod OrderLaws
pub mod NumberLaws
pub mod JoinLaws
pub mod InUse
pub mod Extremes
pub mod Sure
