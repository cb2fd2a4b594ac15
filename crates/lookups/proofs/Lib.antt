-- Laws that belong to no one function.
pub mod EarliestLaws
pub mod OpenLaws
pub mod AmountLaws
