-- Laws that belong to no one function.
pub mod CauseLaws
pub mod CodeLaws
pub mod FileFreshLaws
pub mod CalendarLaws
