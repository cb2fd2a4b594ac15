-- One group of a supplier file: the rules of its verdict, answer and effect, and the same on small values.
pub mod Groups
pub mod Reads
pub mod Forms
pub mod parts
