-- `group::marks` meets its contract.
use native.Mathlib.Omega.{arith}
use Prim.Native.Nat.{ℕ}
use mathlib.Core.Bool.{false}
use Rattle.pairs.proofs.MarkLaws.{unmarked}
use Rattle.group.proofs.marks.Goals as goal

pub returns-then-n-eq0 : goal.returns-then-n-eq0
returns-then-n-eq0 c = ((λ k h. absurd (omega (arith, h, c.if-n-eq0.true))), (λ k h. (unmarked 200 (λ (j : ℕ). false)).1 k (omega arith)))
