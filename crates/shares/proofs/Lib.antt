pub mod Parts
pub mod Opened
pub mod OtherView
pub mod OwnView
pub mod Apart
pub mod Kept
pub mod Tests
pub mod Rows
