pub mod RunLaws
pub mod SheetLaws
pub mod RestLaws
pub mod BookLaws
pub mod Joined
pub mod Decides
pub mod Example
pub mod Sure
