-- An entry of a journal made on a ledger that is lent as words, and the entries of some bytes.
pub mod parts
