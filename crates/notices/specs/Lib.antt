-- The four notices, and what stands at each position of them.
pub mod Notices
pub mod Answers
pub mod Positions
