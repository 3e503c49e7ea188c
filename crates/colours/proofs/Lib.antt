pub mod Colours
pub mod Sweep
pub mod Sure
