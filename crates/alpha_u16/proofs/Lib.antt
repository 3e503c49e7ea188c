pub mod PixelLaws
pub mod Sure
