-- `engine::file_groups::take` meets its contract. The invariant is `Walk` of the ledger that is held.
use Prim.Native.Nat.{ℕ}
use mathlib.Core.Path.{◌≡◌}
use mathlib.Core.Bool.{Bool, true}
use mathlib.Core.List.{List}
use Rattle.ledger.specs.declared.Ledger.{Ledger}
use Rattle.group.specs.declared.Tally.{Tally}
use Rattle.group.proofs.GroupWalk.{Walk}
use Rattle.engine.proofs.file_groups.take.Given as goal

-- what is lent holds the ledger that the groups before record i left
pub record Held {A : Type 0} (fits : List A → Bool) (held : List A → Ledger) (s : List ℕ) (n : ℕ) (xs₀ : List A) (writes : Bool) (out₀ : List ℕ) (xs : List A)
    (out : List ℕ) (c : Tally) (i : ℕ) : Type 0 where
  pub holds : fits xs ≡ true
  pub walk : Walk s n (held xs₀) writes out₀ (held xs) out c i

abbrev pub invariant-loop-header : goal.invariant-loop-header
invariant-loop-header g l = Held g.T.Holder.holds g.T.Holder.held l.s l.n l.initial.lent l.writes l.initial.out l.lent l.out l.c l.header
