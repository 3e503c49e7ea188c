pub mod PixelLaws
pub mod Tests
pub mod Rows
pub mod Sure
