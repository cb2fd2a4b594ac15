-- `units::Date::number` meets its contract: the days of the years and months before, which are few, and of this month.
use native.Mathlib.Omega.{arith}
use Rattle.units.specs.Days.{day_number}
use Rattle.units.proofs.DateLaws.{date-parts, date-month, days-before}
use Rattle.units.proofs.Date.number.Goals as goal

pub days_before_year-requires : goal.days_before_year-requires
days_before_year-requires c = let p = date-parts c.args.self.0 c.requires in (p.from, p.to)

pub days_before_month-requires : goal.days_before_month-requires
days_before_month-requires c = date-month c.args.self.0 c.requires

pub overflow_add-result : goal.overflow_add-result
overflow_add-result c = omega (arith, days-before c.args.self.0 c.requires)

pub overflow_sub-result : goal.overflow_sub-result
overflow_sub-result c = (date-parts c.args.self.0 c.requires).some

pub overflow_add-result-2 : goal.overflow_add-result-2
overflow_add-result-2 c = omega (arith, days-before c.args.self.0 c.requires)

pub returns : goal.returns
unfolding day_number
returns c = rw (c.days_before_year.ensures, c.days_before_month.ensures)
