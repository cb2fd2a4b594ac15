-- The causes of each call, and what requests and cancels come to on small values.
pub mod Causes
pub mod Requests
pub mod parts
