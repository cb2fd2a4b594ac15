-- Laws that belong to no one function.
pub mod DateLaws
pub mod YearLaws
pub mod MonthLaws
pub mod DayExamples
pub mod DateOrder
