-- "The ledger and its calls": what a ledger and its bills are, and when a ledger is sound.
pub mod Limits
pub mod Bills
pub mod Books
pub mod Sound
pub mod parts
