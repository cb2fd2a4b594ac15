-- Laws that belong to no one function.
pub mod RuleLaws
pub mod LinesRead
pub mod DatedLaws
