-- `calendar::is_business_day` meets its contract: the weekday, and the holidays.
use native.Mathlib.Omega.{arith}
use borrow.Author.Tests.{le-leb, lt-leb}
use Rattle.units.specs.Days.{weekday}
use Rattle.calendar.specs.BusinessDays.{is_business_day}
use Rattle.calendar.proofs.is_business_day.Goals as goal

pub returns-then-weekday-gt-FRIDAY : goal.returns-then-weekday-gt-FRIDAY
unfolding is_business_day
returns-then-weekday-gt-FRIDAY c =
    rw (c.requires, lt-leb (weekday c.args.d.0) 5 (omega (arith, c.weekday.ensures)))

pub returns : goal.returns
unfolding is_business_day
returns c =
    rw (c.requires, le-leb (weekday c.args.d.0) 5 (omega (arith, c.weekday.ensures)), c.is_holiday.ensures)
