-- `units::Date::valid` meets its contract: the strict tests are those of `is_date`.
use Rattle.units.specs.Calendar.{is_date}
use Rattle.units.proofs.Date.valid.Goals as goal

pub returns : goal.returns
unfolding is_date
returns c = rw c.month_days-last.ensures
