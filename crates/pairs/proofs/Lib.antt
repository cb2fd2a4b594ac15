-- Laws that belong to no one function.
pub mod GroupNumberLaws
pub mod MarkLaws
pub mod SlotLaws
