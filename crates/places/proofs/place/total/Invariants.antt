-- `places::place::total` meets its contract. The invariant: the sum is that of the first i bills.
use mathlib.Core.Path.{◌≡◌}
use lib.ListN.{take}
use Rattle.ledger.specs.Books.{total_of}
use Rattle.places.proofs.place.total.Given as goal

abbrev pub invariant-loop-i : goal.invariant-loop-i
invariant-loop-i g l = l.sum.0 ≡ total_of (take l.i (take l.n (g.T.Holder.held l.lent).bills))
