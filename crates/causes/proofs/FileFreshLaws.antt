-- The causes against a file and a fresh, as the code asks them. Assumes nothing.
use Prim.Native.Nat.{ℕ, suc, ◌/◌, ◌%◌, ◌≤◌}
use mathlib.Core.Path.{◌≡◌, refl, sym, ap}
use mathlib.Core.Bool.{Bool, true, false, cond, not, ◌&&◌}
use mathlib.Core.List.{List, [], ◌∷◌}
use native.Mathlib.Omega.{arith}
use lib.Dec.{eqb, leb, ltb}
use lib.ListN.{length, take}
use borrow.Author.Tests.{leb-true}
use Rattle.fields.proofs.BoolLaws.{and_left, and_right}
use Rattle.units.specs.Calendar.{is_date}
use Rattle.rules.specs.Lists.{every, count}
use Rattle.rules.proofs.ListLaws.{all-joined}
use Rattle.records.specs.Layout.{records_from}
use Rattle.records.proofs.LayoutLaws.{length-records}
use Rattle.file.specs.File.{records, good_record, headed, good_file, is_header, Group, leading, groups, file_groups, asks_id}
use Rattle.rules.specs.Rules.{first}
use Rattle.causes.specs.declared.Start.{Start}
use Rattle.causes.specs.Causes.{is_number, start_tests, lacks, fresh_causes, file_causes}
use Rattle.std.specs.Prelude.{Result, Ok, Err, ⊤}
use Rattle.rules.specs.declared.Cause.{Cause}
use Rattle.rules.specs.declared.Cause.TheVariants.{OutputTooSmall, BadArgument, BadFile, TooFewNumbers}

-- ---- how long a file is, and how many groups it has
pub good-short : (s : List ℕ) → good_file s ≡ true → length s ≤ 64200
unfolding good_file
good-short s h =
    leb-true _ _
    (and_right (eqb (length s % 321) 0) (leb (length s) 64200)
    (and_left (eqb (length s % 321) 0 && leb (length s) 64200) (every good_record (records s))
    (and_left (eqb (length s % 321) 0 && leb (length s) 64200 && every good_record (records s)) (headed (records s)) h)))

groups-le : (rs : List (List ℕ)) → length (groups rs) ≤ length rs
unfolding groups
groups-le [] = omega arith
groups-le (r ∷ rs) = go (is_header r) (groups-le rs)
  where
    go : (b : Bool) → length (groups rs) ≤ length rs
        → length (cond b (record { header = r; details = take (leading rs) rs } ∷ groups rs) (groups rs)) ≤ length (r ∷ rs)
    go true h = omega arith
    go false h = omega arith

count-le : (p : Group → Bool) (gs : List Group) → count p gs ≤ length gs
count-le p [] = omega arith
count-le p (g ∷ gs) = go (p g) (count-le p gs)
  where
    go : (b : Bool) → count p gs ≤ length gs → cond b (suc (count p gs)) (count p gs) ≤ length (g ∷ gs)
    go true h = omega arith
    go false h = omega arith

-- as the code counts them
pub file-groups : (s : List ℕ) → file_groups s ≡ groups (records_from s 0 (length s / 321))
unfolding file_groups records
file-groups s = refl

module _ (s : List ℕ) (h : good_file s ≡ true) where
  pub groups-few : length (file_groups s) ≤ 200
  groups-few =
      omega (
        arith,
        ap length (file-groups s),
        groups-le (records_from s 0 (length s / 321)),
        length-records s 0 (length s / 321),
        good-short s h,
      )

  pub ids-few : count asks_id (file_groups s) ≤ 200
  ids-few = omega (arith, count-le asks_id (file_groups s), groups-few)

-- ---- the check, as the code asks the causes
-- fewer numbers are left than the groups need
module _ (s : List ℕ) (tracking confirmation : ℕ) where
  abbrev pub short : Bool
  short = lacks tracking confirmation (count asks_id (file_groups s)) (length (file_groups s))

  -- with the counts that the code found
  pub short-is : (n ids : ℕ) → n ≡ length (groups (records_from s 0 (length s / 321)))
      → ids ≡ count asks_id (groups (records_from s 0 (length s / 321))) → short ≡ lacks tracking confirmation ids n
  unfolding file_groups records
  short-is n ids e f = rw (e, f)

module _ (s : List ℕ) (room tracking confirmation : ℕ) where
  abbrev asked : Result ⊤ Cause
  asked = first (file_causes s room tracking confirmation)

  pub stop-bad : good_file s ≡ false → Err BadFile ≡ asked
  unfolding file_causes
  stop-bad a = rw a

  pub stop-room : good_file s ≡ true → ltb room (length s) ≡ true → Err OutputTooSmall ≡ asked
  unfolding file_causes
  stop-room a b = rw (a, b)

  pub stop-numbers : good_file s ≡ true → ltb room (length s) ≡ false → short s tracking confirmation ≡ true → Err TooFewNumbers ≡ asked
  unfolding file_causes
  stop-numbers a b c = rw (a, b, c)

  pub no-cause : good_file s ≡ true → ltb room (length s) ≡ false → short s tracking confirmation ≡ false → (Ok tt) ≡ asked
  unfolding file_causes
  no-cause a b c = rw (a, b, c)

-- ---- fresh
-- the code's tests, joined from the left
module _ (s : Start) (a b c : Bool) (p : a ≡ is_date s.today.0) (q : b ≡ is_number s.tracking) (r : c ≡ is_number s.confirmation) where
  pub fresh-tested : (t : Bool) → (a && b && c) ≡ t → first (fresh_causes s) ≡ cond t (Ok tt) (Err BadArgument)
  unfolding fresh_causes start_tests
  fresh-tested t e = rw (sym (all-joined (is_date s.today.0) (is_number s.tracking ∷ is_number s.confirmation ∷ [])), ← p, ← q, ← r, e) (by t)
    where
      by : (t : Bool) → cond {A = Result ⊤ Cause} (not t) (Err BadArgument) (Ok tt) ≡ cond t (Ok tt) (Err BadArgument)
      by true = refl
      by false = refl
