-- Laws that the functions' proofs share.
pub mod LineLaws
pub mod GroupLineLaws
pub mod LinesWalk
pub mod AnswersRead
pub mod TraceLaws
pub mod ExampleTraceProof
