pub mod ReadLaws
pub mod ReadingLaws
pub mod Sure
pub mod MapLaws
