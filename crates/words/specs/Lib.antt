-- A ledger as an array of 64-bit words.
pub mod Layout
