-- Where the bytes of a piece go, and how the reading ends.
pub mod Ends
pub mod Written
