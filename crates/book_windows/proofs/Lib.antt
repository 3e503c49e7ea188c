pub mod SignsLaws
pub mod CountLaws
pub mod SetMarks
