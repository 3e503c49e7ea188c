pub mod Making
pub mod Lending
