-- For the test of equal identities.
pub mod parts
