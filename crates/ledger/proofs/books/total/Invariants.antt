-- At each turn the sum is that of the charges passed.
use mathlib.Core.Path.{◌≡◌}
use lib.ListN.{take}
use Rattle.ledger.specs.Books.{total_of}
use Rattle.ledger.proofs.books.total.Given as goal

abbrev pub invariant-loop-b : goal.invariant-loop-b
invariant-loop-b l = l.sum.0 ≡ total_of (take l.b-index l.bills)
