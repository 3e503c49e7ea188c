pub mod LayoutLaws
pub mod FillLaws
pub mod SlotLaws
