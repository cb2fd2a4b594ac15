-- Laws of the program.
pub mod TableAfterLaws
