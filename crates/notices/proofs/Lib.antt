-- Laws that belong to no one function.
pub mod WriteLaws
pub mod NoticeLengths
pub mod AnswerLaws
pub mod RecordLaws
pub mod PositionLaws
pub mod AnswerPositions
pub mod BilReadBack
