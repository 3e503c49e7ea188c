pub mod RunLaws
pub mod WindowCuts
pub mod Rectangle
