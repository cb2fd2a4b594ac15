-- `places::place::find` meets its contract: the search from i on is the whole search.
use mathlib.Core.Path.{◌≡◌}
use lib.ListN.{take}
use lib.Seq.{slice}
use Rattle.rules.specs.Lists.{find}
use Rattle.ledger.specs.Books.{of_id}
use Rattle.places.proofs.place.find.Given as goal

abbrev pub invariant-loop-i : goal.invariant-loop-i
invariant-loop-i g l = find (of_id l.id) l.i (slice l.i l.n (g.T.Holder.held l.lent).bills) ≡ find (of_id l.id) 0 (take l.n (g.T.Holder.held l.lent).bills)
