-- `lookups::due_first` meets its contract. The invariant: what the walk of the bills from i on comes to is what the whole walk comes to.
use mathlib.Core.Path.{◌≡◌}
use lib.ListN.{take}
use lib.Seq.{slice}
use Rattle.lookups.specs.parts.Walk.{none_due, due_after}
use Rattle.lookups.proofs.due_first.Given as goal

abbrev pub invariant-loop-i : goal.invariant-loop-i
invariant-loop-i g l = due_after l.account l.today l.i l.first (slice l.i l.n (g.T.Holder.held l.lent).bills) ≡ due_after l.account l.today 0 none_due (take l.n (g.T.Holder.held l.lent).bills)
