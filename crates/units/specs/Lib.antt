-- "Units and dates" of document 01.
pub mod Units
pub mod Calendar
pub mod Days
