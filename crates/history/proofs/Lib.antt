-- The claim's proof, and the laws it rests on.
pub mod WrittenRecordLaws
pub mod NoticeReads
pub mod WrittenLaws
pub mod Accepted
pub mod UpdateLaws
pub mod Follow
pub mod Simulation
pub mod Rows
pub mod ClaimProof
pub mod CaseProofs
