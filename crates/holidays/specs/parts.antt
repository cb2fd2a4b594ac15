-- What serves the contracts of inner functions and states no rule.
pub mod FirstLine
