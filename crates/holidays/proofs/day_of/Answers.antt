-- `holidays::day_of` meets its contract: the holidays in the array stand for all of them.
use mathlib.Core.Path.{refl, sym, ap₂, ◌∙◌}
use lib.Seq.{length-take-le}
use Rattle.calendar.specs.BusinessDays.{further_day}
use Rattle.holidays.specs.Lines.{holidays_of}
use Rattle.holidays.specs.DayLine.{day_of}
use Rattle.holidays.proofs.InputLaws.{held-within, further-held}
use Rattle.holidays.proofs.day_of.Goals as goal

pub slice_bounds-holidays-end : goal.slice_bounds-holidays-end
slice_bounds-holidays-end c = held-within _ _ (holidays_of c.args.s.now) _ c.read_holidays-n.ensures.answer c.read_holidays-n.ensures.dates

pub slice_bounds-business_day-end : goal.slice_bounds-business_day-end
slice_bounds-business_day-end c = sym (length-take-le _ _ (held-within _ _ (holidays_of c.args.s.now) _ c.read_holidays-n.ensures.answer c.read_holidays-n.ensures.dates))

pub returns : goal.returns
unfolding day_of
returns c =
    let read = c.read_holidays-n.ensures in
    let all = holidays_of c.args.s.now in
    c.business_day.ensures
    ∙ further-held _ _ all _ read.answer read.dates refl _ _
    ∙ ap₂ (further_day all) c.date_in.ensures c.digit_in-further.ensures
