-- Laws that belong to no one function.
pub mod WordLaws
pub mod WordPlaceLaws
pub mod EmptyLaws
pub mod PartLaws
