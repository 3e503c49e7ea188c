pub mod Answer
pub mod Story
