pub mod InsideLaws
pub mod AlongLaws
pub mod LineLaws
pub mod TotalLaws
pub mod KnownLaws
pub mod CompareLaws
pub mod SureLaws
