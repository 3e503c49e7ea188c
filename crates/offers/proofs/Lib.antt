pub mod RepairLaws
pub mod OwnLaws
pub mod StepLaws
