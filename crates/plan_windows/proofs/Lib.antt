pub mod LineLaws
pub mod WindowLaws
pub mod NoWeight
pub mod BlankLaws
pub mod FillLaws
