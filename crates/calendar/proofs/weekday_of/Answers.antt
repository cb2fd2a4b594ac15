-- `calendar::weekday_of` meets its contract: whether it is a date, and its weekday.
use mathlib.Core.Path.{sym, ◌∙◌}
use Rattle.calendar.specs.BusinessDays.{weekday_of}
use Rattle.calendar.proofs.weekday_of.Goals as goal

pub returns-then-not-valid : goal.returns-then-not-valid
unfolding weekday_of
returns-then-not-valid c = rw (sym c.valid.ensures ∙ c.if-not-valid.true)

pub returns : goal.returns
unfolding weekday_of
returns c = rw (sym c.valid.ensures ∙ c.if-not-valid.false, c.weekday.ensures)
