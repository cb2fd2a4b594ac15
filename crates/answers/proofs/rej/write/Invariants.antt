-- `answers::rej::write` meets its contract: the header, then a detail for each record after it.
use Prim.Native.Nat.{ℕ, ◌+◌, ◌*◌}
use mathlib.Core.Path.{◌≡◌}
use mathlib.Core.Bool.{Bool}
use mathlib.Core.List.{List}
use lib.ListN.{length}
use Rattle.fields.proofs.PutLaws.{Wrote}
use Rattle.notices.specs.declared.rej.Rej.{Rej}
use Rattle.records.specs.Layout.{records_from}
use Rattle.notices.specs.Answers.{rej_details}
use Rattle.answers.proofs.rej.write.Given as goal

-- the details of the first j records are written
pub record Inv (out₀ : List ℕ) (at : ℕ) (s : List ℕ) (i : ℕ) (x : Rej) (sup : Bool) (out : List ℕ) (j : ℕ) : Type 0 where
  pub kept : length out ≡ length out₀
  pub wrote : Wrote out₀ (at + 321) out (rej_details sup (records_from s (i + 1) j) x) (j * 321)

abbrev pub invariant-loop-j : goal.invariant-loop-j
invariant-loop-j l = Inv l.initial.out l.at l.s l.i l.x l.sup l.out l.j
