-- "Lookups, journal and table": the posted table, and document 01's example of it.
pub mod Table
pub mod Example
