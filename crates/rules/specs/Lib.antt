-- What the rules are stated with: conditions in an order, and tests, sums and searches over a list.
pub mod Rules
pub mod Lists
pub mod Least
pub mod Numbers
