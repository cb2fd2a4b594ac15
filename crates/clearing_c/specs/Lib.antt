-- What the functions for C and Rust programs answer, and demand 3 over a list of them.
pub mod InWords
pub mod WholeJournals
