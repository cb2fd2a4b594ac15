-- Laws that belong to no one function.
pub mod MadeLaws
pub mod BodyLaws
pub mod HeadLaws
pub mod JournalLaws
pub mod BeginLaws
pub mod ShortLaws
pub mod BrnFileLaws
pub mod StopLaws
