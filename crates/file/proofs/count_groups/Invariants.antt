-- `file::count_groups` meets its contract.
use Prim.Native.Nat.{ℕ, ◌+◌, ◌≤◌}
use mathlib.Core.Path.{◌≡◌}
use mathlib.Core.List.{List}
use lib.ListN.{length}
use Rattle.rules.specs.Lists.{count}
use Rattle.records.specs.Layout.{records_from}
use Rattle.file.specs.File.{records, groups, asks_id}
use Rattle.file.proofs.count_groups.Given as goal

-- what was counted, and what there is in the bytes that are left, t, make the whole
pub record Inv (s : List ℕ) (n g k : ℕ) (t : List ℕ) : Type 0 where
  pub few : g + length t ≤ length s
  pub fewer : k + length t ≤ length s
  pub counted : g + length (groups (records t)) ≡ length (groups (records_from s 0 n))
  pub ids : k + count asks_id (groups (records t)) ≡ count asks_id (groups (records_from s 0 n))

abbrev pub invariant-loop-r : goal.invariant-loop-r
invariant-loop-r l = (l.r-iterator.size ≡ 321) × Inv l.s l.n l.g l.k l.r-iterator.rest.now
