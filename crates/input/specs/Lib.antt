-- What the contract of `fill` cites.
pub mod Filled
