-- `causes::by_calendar::due_day` meets its contract: the fields first, then what the calendar answers.
use mathlib.Core.Path.{sym, ◌∙◌}
use Rattle.calendar.specs.BusinessDays.{further_day}
use Rattle.causes.specs.Causes.{schedule_causes}
use Rattle.causes.proofs.by_calendar.due_day.Goals as goal

pub returns-then-not-good_undated : goal.returns-then-not-good_undated
unfolding schedule_causes
returns-then-not-good_undated c = rw (sym c.good_undated.ensures ∙ c.if-not-good_undated.true)

pub returns : goal.returns
unfolding schedule_causes further_day
returns c = rw (sym c.good_undated.ensures ∙ c.if-not-good_undated.false) c.business_day.ensures
