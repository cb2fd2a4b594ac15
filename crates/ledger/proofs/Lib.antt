-- Laws that belong to no one function.
pub mod BookLaws
pub mod SoundLaws
pub mod RemovalLaws
