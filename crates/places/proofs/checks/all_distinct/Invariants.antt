-- `places::checks::all_distinct` meets its contract. The invariant: the slots of the identities before place i are met, and none of these stands
-- twice.
use mathlib.Core.Path.{◌≡◌}
use mathlib.Core.Bool.{true}
use lib.ListN.{length, take}
use Rattle.ledger.specs.Sound.{distinct}
use Rattle.places.specs.parts.Slots.{slots}
use Rattle.places.proofs.DistinctLaws.{Noted}
use Rattle.places.proofs.checks.all_distinct.Given as goal

abbrev pub invariant-loop-i : goal.invariant-loop-i
invariant-loop-i g l = (length l.met ≡ slots) × Noted (g.T.Holder.held l.lent).bills l.met l.i × (distinct (take l.i (g.T.Holder.held l.lent).bills) ≡ true)
