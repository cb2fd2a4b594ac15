-- Laws that belong to no one function.
pub mod LineLaws
pub mod DayLineLaws
pub mod InputLaws
pub mod ExampleProof
