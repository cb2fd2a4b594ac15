-- `units::Date::is_year_past` meets its contract: a date is far from the largest number, and 29 February is the case of the definition.
use native.Mathlib.Omega.{arith}
use borrow.Author.Tests.{ne_eqb}
use Rattle.units.specs.Days.{year_on}
use Rattle.units.proofs.DateLaws.{date-last}
use Rattle.units.proofs.Date.is_year_past.Goals as goal

pub overflow_add-result : goal.overflow_add-result
overflow_add-result c = omega (arith, date-last c.args.from.0 c.requires)

pub returns-then-d-eq229 : goal.returns-then-d-eq229
unfolding year_on
returns-then-d-eq229 c = rw c.if-d-eq229.true

pub overflow_add-result-2 : goal.overflow_add-result-2
overflow_add-result-2 c = omega (arith, date-last c.args.from.0 c.requires)

pub returns : goal.returns
unfolding year_on
returns c = rw (ne_eqb _ _ c.if-d-eq229.false)
