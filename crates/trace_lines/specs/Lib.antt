-- The lines of program `trace`: what became of each entry of a journal.
pub mod Lines
pub mod Trace
pub mod Example
pub mod parts
