pub mod JudgeLaws
pub mod Judged
pub mod Sure
