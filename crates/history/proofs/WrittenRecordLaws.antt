-- Records read back from bytes that were written one after the other. Assumes nothing.
use Prim.Native.Nat.{ℕ, zero, suc, ◌+◌, ◌*◌, ◌/◌, ◌≤◌}
use mathlib.Core.Path.{◌≡◌, refl, ◌∙◌}
use mathlib.Core.Bool.{true}
use mathlib.Core.List.{List, [], ◌∷◌, ◌++◌}
use native.Mathlib.Omega.{arith}
use lib.ListN.{length, length-append, take}
use Rattle.fields.proofs.BoolLaws.{cases}
use Rattle.fields.specs.Put.{part}
use Rattle.fields.proofs.PutLaws.{part_left, part_right, part-whole}
use Rattle.records.specs.Layout.{records_from}
use Rattle.records.proofs.LayoutLaws.{long-record}
use Rattle.file.specs.File.{records, is_header, leading, groups, file_groups, Group}
use Rattle.history.specs.Claim.{All}

later : (xs ys : List ℕ) (m k i : ℕ) → length xs ≡ m * 321 → records_from (xs ++ ys) (m + i) k ≡ records_from ys i k
unfolding records_from
later xs ys m zero i h = refl
later xs ys m (suc k) i h =
    let e : (m + i) * 321 ≡ m * 321 + i * 321 = omega arith in
    let n : m + i + 1 ≡ m + (i + 1) = omega arith in
    rw (e, n, part_right xs ys (m * 321) (i * 321) 321 h, later xs ys m k (i + 1) h)

-- one record and more bytes
pub records-cons : (r ys : List ℕ) → length r ≡ 321 → records (r ++ ys) ≡ r ∷ records ys
unfolding records records_from
records-cons r ys h =
    let n : length (r ++ ys) / 321 ≡ suc (length ys / 321) = omega (arith, length-append r ys) in
    let p : part (r ++ ys) 0 321 ≡ r = part_left r ys 0 321 (omega arith) ∙ part-whole r 321 h in
    let q : records_from (r ++ ys) 1 (length ys / 321) ≡ records_from ys 0 (length ys / 321) = later r ys 1 (length ys / 321) 0 h in
    rw (n, p, q)

pub records-none : records [] ≡ []
unfolding records records_from
records-none = refl

-- ---- the records of a file have 321 bytes
abbrev pub Whole : List ℕ → Type 0
Whole r = length r ≡ 321

whole_from : (s : List ℕ) (i k : ℕ) → (i + k) * 321 ≤ length s → All Whole (records_from s i k)
unfolding records_from
whole_from s i zero h = tt
whole_from s i (suc k) h = (long-record s i (omega arith), whole_from s (i + 1) k (omega arith))

whole-records : (s : List ℕ) → All Whole (records s)
unfolding records
whole-records s = whole_from s 0 (length s / 321) (omega arith)

-- a group whose records have 321 bytes, the first a header
pub record Formed (g : Group) : Type 0 where
  pub header : length g.header ≡ 321
  pub record_type : is_header g.header ≡ true
  pub details : All Whole g.details

all_take : (n : ℕ) (rs : List (List ℕ)) → All Whole rs → All Whole (take n rs)
all_take zero rs a = tt
all_take (suc n) [] a = tt
all_take (suc n) (r ∷ rs) a = (a.0, all_take n rs a.1)

formed-groups : (rs : List (List ℕ)) → All Whole rs → All Formed (groups rs)
unfolding groups
formed-groups [] a = tt
formed-groups (r ∷ rs) a =
    cases (is_header r)
    (λ e. rw e (record { header = a.0; record_type = e; details = all_take (leading rs) rs a.1 }, formed-groups rs a.1))
    (λ e. rw e (formed-groups rs a.1))

pub formed-file : (s : List ℕ) → All Formed (file_groups s)
unfolding file_groups
formed-file s = formed-groups (records s) (whole-records s)
