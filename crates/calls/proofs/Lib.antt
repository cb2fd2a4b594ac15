-- Laws that belong to no one function.
pub mod SoundKept
pub mod FileSound
pub mod CallLaws
pub mod NextSound
pub mod RunLaws
pub mod PlaceOfLaws
pub mod BillLaws
pub mod FreshCloseLaws
pub mod FileCallLaws
pub mod CountLaws
pub mod CalendarCalls
pub mod RemovalCalls
