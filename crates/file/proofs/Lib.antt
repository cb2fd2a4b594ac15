-- Laws that belong to no one function.
pub mod FileLaws
pub mod WalkLaws
pub mod FormLaws
