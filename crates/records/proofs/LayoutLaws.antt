-- Laws of the records of a file. Assumes nothing.
use mathlib.Core.Path.{◌≡◌, refl, sym, ap, ◌∙◌}
use mathlib.Core.List.{List, [], ◌∷◌, ◌++◌}
use Prim.Native.Nat.{ℕ, zero, suc, ◌+◌, ◌-◌, ◌*◌, ◌≤◌, ◌<◌}
use native.Mathlib.Omega.{arith}
use native.Mathlib.Nat.{add-zero}
use lib.ListN.{length, take, drop}
use Rattle.fields.specs.Put.{part}
use Rattle.fields.proofs.PutLaws.{length_part}
use Rattle.records.specs.Layout.{record_at, records_from}

-- what a function lends that takes a record's bytes out of the file
pub lent-record : (s : List ℕ) (i : ℕ) → take (i * 321 + 321 - i * 321) (drop (i * 321) s) ≡ record_at s i
unfolding part
lent-record s i =
    let e : i * 321 + 321 - i * 321 ≡ 321 = omega arith in
    ap (λ (k : ℕ). take k (drop (i * 321) s)) e

pub long-record : (s : List ℕ) (i : ℕ) → i * 321 + 321 ≤ length s → length (record_at s i) ≡ 321
long-record s i h = length_part s (i * 321) 321 h

-- one record more
pub records-snoc : (s : List ℕ) (i k : ℕ) → records_from s i (suc k) ≡ records_from s i k ++ (record_at s (i + k) ∷ [])
unfolding records_from
records-snoc s i zero = ap (λ (j : ℕ). record_at s j ∷ []) (sym (add-zero i))
records-snoc s i (suc k) =
    let e : i + 1 + k ≡ i + suc k = omega arith in
    ap (λ (rs : List (List ℕ)). record_at s i ∷ rs)
    (records-snoc s (i + 1) k ∙ ap (λ (j : ℕ). records_from s (i + 1) k ++ (record_at s j ∷ [])) e)

-- the records from record i of n on
pub records-step : (s : List ℕ) (i n : ℕ) → i < n → records_from s i (n - i) ≡ record_at s i ∷ records_from s (i + 1) (n - (i + 1))
unfolding records_from
records-step s i n h =
    let e : n - i ≡ suc (n - (i + 1)) = omega arith in
    ap (λ (k : ℕ). records_from s i k) e

pub records-end : (s : List ℕ) (i n : ℕ) → n ≤ i → records_from s i (n - i) ≡ []
unfolding records_from
records-end s i n h =
    let e : n - i ≡ 0 = omega arith in
    ap (λ (k : ℕ). records_from s i k) e

pub length-records : (s : List ℕ) (i k : ℕ) → length (records_from s i k) ≡ k
unfolding records_from
length-records s i zero = refl
length-records s i (suc k) = ap suc (length-records s (i + 1) k)
