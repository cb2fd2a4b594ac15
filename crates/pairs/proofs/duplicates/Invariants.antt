-- `pairs::duplicates` meets its contract. The outer invariant: the marks before i are right. The inner one: no record before j matches.
use Prim.Native.Nat.{ℕ, ◌<◌}
use mathlib.Core.Path.{◌≡◌}
use mathlib.Core.Bool.{false}
use lib.ListN.{length}
use Rattle.file.specs.parts.Walk.{mark_at}
use Rattle.pairs.proofs.MarkLaws.{Marked}
use Rattle.pairs.proofs.SlotLaws.{meets}
use Rattle.pairs.proofs.duplicates.Given as goal

abbrev pub invariant-others : goal.invariant-others
invariant-others l = (l.marks ≡ l.initial.marks) × ((k : ℕ) → k < l.j → meets l.other-items l.i k ≡ false)

abbrev pub invariant-loop-i : goal.invariant-loop-i
invariant-loop-i l = (length l.marks ≡ 200) × Marked l.marks (mark_at l.s l.n) l.i
