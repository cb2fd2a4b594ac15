-- The three demands side by side, document 01's example, and what document 02 claims beside them.
pub mod Example
pub mod Statements
pub mod Papers
