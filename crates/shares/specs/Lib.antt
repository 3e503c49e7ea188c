pub mod Restarted
pub mod Store
pub mod Scratch
pub mod Machine
pub mod Runs
pub mod Apart
