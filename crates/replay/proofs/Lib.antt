-- Laws of a journal that is read in pieces.
pub mod PieceLaws
pub mod WholeLaws
pub mod ReadingLaws
pub mod EndingLaws
