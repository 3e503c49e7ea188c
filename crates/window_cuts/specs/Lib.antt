pub mod Run
pub mod WindowCuts
pub mod Rectangle
