-- What program `business_day` reads and prints.
pub mod Lines
pub mod DayLine
pub mod Example
pub mod parts
