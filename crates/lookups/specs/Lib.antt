-- The two lookups.
pub mod Lookups
pub mod parts
