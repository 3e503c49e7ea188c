pub mod SumSizes
pub mod Sure
