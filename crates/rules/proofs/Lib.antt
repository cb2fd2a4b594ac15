-- Laws that belong to no one function.
pub mod ListLaws
pub mod LeastLaws
pub mod RuleLaws
