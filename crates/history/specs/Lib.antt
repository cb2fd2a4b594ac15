-- "The sum from history": the history of a list of calls, and the claim.
pub mod History
pub mod Written
pub mod Claim
pub mod Cases
pub mod RemovalCases
