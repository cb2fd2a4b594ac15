-- "Supplier file": records, the check, groups, and lines 1 to 3.
pub mod File
pub mod parts
