-- `calendar::good_holidays` meets its contract. The invariant: the holidays from this one on follow the one before where all are good.
use mathlib.Core.Path.{◌≡◌}
use lib.ListN.{length}
use lib.Seq.{slice}
use Rattle.calendar.specs.BusinessDays.{good_holidays}
use Rattle.calendar.proofs.HolidayLaws.{follow}
use Rattle.calendar.proofs.good_holidays.Given as goal

abbrev pub invariant-loop-h : goal.invariant-loop-h
invariant-loop-h l =
    follow l.before (slice l.h-index (length l.holidays) l.holidays) ≡ good_holidays l.holidays
