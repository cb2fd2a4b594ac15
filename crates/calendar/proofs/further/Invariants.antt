-- `calendar::further` meets its contract. The invariant, `Way`: the date sought from the start on is that sought from this date on.
use Prim.Native.Nat.{◌-◌}
use Rattle.units.specs.Days.{last_date}
use Rattle.calendar.proofs.FurtherLaws.{Way}
use Rattle.calendar.proofs.further.Given as goal

abbrev pub invariant-loop-left : goal.invariant-loop-left
invariant-loop-left l = Way l.holidays l.initial.d.0 l.number l.d.0 l.left

abbrev pub decreases-loop-left : goal.decreases-loop-left
decreases-loop-left l = last_date - l.d.0
