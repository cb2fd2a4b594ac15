-- "Lookups, journal and table": the entries of a journal, and what a journal comes to.
pub mod Entries
pub mod Journal
pub mod EntryCalls
pub mod parts
