-- The layout of the records, and their limits.
pub mod Limits
pub mod Layout
pub mod Tiers
