pub mod SheetLaws
pub mod WriterLaws
pub mod Example
pub mod Tests
pub mod Rows
