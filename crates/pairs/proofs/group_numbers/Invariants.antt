-- `pairs::group_numbers` meets its contract. The invariant: the numbers before i are right.
use Prim.Native.Nat.{ℕ, ◌<◌}
use mathlib.Core.Path.{◌≡◌}
use lib.ListN.{get_or}
use Rattle.pairs.specs.parts.GroupNumbers.{number_at}
use Rattle.pairs.proofs.group_numbers.Given as goal

abbrev pub invariant-loop-i : goal.invariant-loop-i
invariant-loop-i l = (k : ℕ) → k < l.i → get_or l.number-items k 0 ≡ number_at l.s l.n k
