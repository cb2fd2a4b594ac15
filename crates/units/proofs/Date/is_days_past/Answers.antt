-- `units::Date::is_days_past` meets its contract: by what `number` ensures, which is few.
use native.Mathlib.Omega.{arith}
use Rattle.units.specs.Days.{days_past}
use Rattle.units.proofs.DateLaws.{number-few}
use Rattle.units.proofs.Date.is_days_past.Goals as goal

pub overflow_add-result : goal.overflow_add-result
overflow_add-result c = omega (arith, c.number.ensures, number-few c.args.from.0 c.requires.1)

pub returns : goal.returns
unfolding days_past
returns c = rw (c.number.ensures, c.number-2.ensures)
