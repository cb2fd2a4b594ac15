-- Laws that belong to no one function.
pub mod EntryLines
pub mod RunLines
