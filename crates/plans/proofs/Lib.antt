pub mod NameFirst
pub mod Bounds
pub mod CropLaws
pub mod PlanLaws
