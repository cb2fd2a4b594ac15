-- What fills the statements in.
pub mod ExampleProof
pub mod NoticeCalls
pub mod NoticeIds
pub mod DemandsHold
pub mod PapersHold
pub mod Anniversary
pub mod SupDates
pub mod OverCalls
pub mod NoRemovals
pub mod PaperTwo
pub mod KeptPlaces
pub mod PaperThree
