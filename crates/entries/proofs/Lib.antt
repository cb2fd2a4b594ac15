-- Laws that belong to no one function.
pub mod MadeParts
pub mod StoodLaws
pub mod FirstMadeLaws
pub mod RunNotices
pub mod RanLaws
