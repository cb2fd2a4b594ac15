-- "The ledger and its calls", "Causes" and "Lookups": what each call is given, when it is refused, and what it does.
pub mod Machine
pub mod Days
pub mod Counts
pub mod parts
