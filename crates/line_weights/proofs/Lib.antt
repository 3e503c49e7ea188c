pub mod WeightLaws
