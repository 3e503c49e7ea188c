pub mod JudgeLaws
pub mod BuiltLaws
pub mod Examples
pub mod Sure
pub mod Tests
pub mod Rows
