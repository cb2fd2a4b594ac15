-- `units::Date::weekday` meets its contract: by what `number` ensures.
use Rattle.units.specs.Days.{weekday}
use Rattle.units.proofs.Date.weekday.Goals as goal

pub returns : goal.returns
unfolding weekday
returns c = rw c.number.ensures
