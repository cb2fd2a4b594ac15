-- `boundary::call_by_calendar` meets its contract.
use Rattle.boundary.proofs.GiveLaws.{gives}
use Rattle.boundary.proofs.call_by_calendar.Goals as goal

pub returns : goal.returns
returns c = record { gives = gives _ _ _ _ _ _ _ c.make_by_calendar-a.ensures _ _ _ _ _ c.give.ensures; written = c.make_by_calendar-a.ensures.bytes }
