-- Line 3 by numbers.
pub mod parts
