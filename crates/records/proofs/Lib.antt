-- Laws that belong to no one function.
pub mod LayoutLaws
pub mod FieldLaws
pub mod TierLaws
pub mod Places
