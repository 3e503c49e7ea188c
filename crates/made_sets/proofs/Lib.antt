pub mod Planned
pub mod Choice
pub mod Made
pub mod Fitting
pub mod Taken
