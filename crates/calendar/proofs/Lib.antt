-- Laws that belong to no one function.
pub mod HolidayLaws
pub mod FurtherLaws
pub mod ExampleDaysHold
