-- How many bytes the notices of a journal have at most.
pub mod Room
