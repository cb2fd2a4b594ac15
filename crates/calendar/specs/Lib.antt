-- Paper 1 of document 02: the business-day calendar.
pub mod BusinessDays
pub mod Example
