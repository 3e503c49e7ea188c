pub mod SumLaws
pub mod ExcessLaws
pub mod SameExcess
pub mod RightLaws
pub mod StoredLaws
pub mod JudgeLaws
pub mod Sure
