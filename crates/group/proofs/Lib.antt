-- Laws that belong to no one function.
pub mod OutputLaws
pub mod FoundLaws
pub mod DecideLaws
pub mod AnswerSizes
pub mod AcceptedLaws
pub mod TurnParts
pub mod TurnLaws
pub mod GroupWalk
pub mod ReadyLaws
pub mod FormCodes
pub mod GroupLinesRead
