pub mod PutLaws
pub mod OnceLaws
pub mod BlockLaws
pub mod StripLaws
pub mod Sure
