-- A lent ledger, changed in place.
pub mod parts
