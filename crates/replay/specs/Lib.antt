-- What the contracts of the loop over standard input cite.
pub mod Ending
pub mod Reading
pub mod parts
