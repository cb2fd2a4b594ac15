-- The details of a group by record number, and how long its answer is. Assumes nothing.
use Prim.Native.Nat.{ℕ, zero, suc, ◌+◌, ◌-◌, ◌*◌, ◌≤◌, ◌<◌}
use mathlib.Core.Path.{◌≡◌, refl, sym, ap, ◌∙◌}
use mathlib.Core.List.{List, ◌∷◌}
use native.Mathlib.Omega.{arith}
use native.Mathlib.Nat.{not-suc-le-zero, le_of_suc-le-suc}
use lib.ListN.{length, take}
use Rattle.ledger.specs.declared.Bill.{Bill}
use Rattle.ledger.specs.declared.Posted.{Posted}
use Rattle.ledger.specs.declared.LedgerHeader.{LedgerHeader}
use Rattle.records.proofs.LayoutLaws.{long-record}
use Rattle.notices.proofs.AnswerLaws.{length-acf}
use Rattle.notices.proofs.RecordLaws.{length-rej}
use Rattle.group.specs.parts.Turns.{answer_at, records_by}
use Rattle.records.specs.Layout.{record_at, records_from}
use Rattle.file.specs.File.{leading}
use Rattle.file.specs.parts.Walk.{records_after, group_at}
use Rattle.file.proofs.FileLaws.{header_is, leading-within, length-details}
use Rattle.std.specs.Prelude.{Result, Ok, Err}

-- the first k of m records
take-records : (s : List ℕ) (i k m : ℕ) → k ≤ m → take k (records_from s i m) ≡ records_from s i k
unfolding records_from
take-records s i zero m h = refl
take-records s i (suc k) zero h = absurd (not-suc-le-zero h)
take-records s i (suc k) (suc m) h = ap (λ (rs : List (List ℕ)). record_at s i ∷ rs) (take-records s (i + 1) k m (le_of_suc-le-suc h))

pub details-are : (s : List ℕ) (i n k : ℕ) → k ≡ leading (records_after s i n) → (group_at s i n).details ≡ records_from s (i + 1) k
unfolding group_at
details-are s i n k e = ap (λ (j : ℕ). take j (records_after s i n)) (sym e) ∙ take-records s (i + 1) k (n - (i + 1)) (omega (arith, leading-within s i n))

-- ---- the answer to the group of record i
module _ (v : Result Posted ℕ) (x : LedgerHeader) (b : Bill) (s : List ℕ) (i n : ℕ) (h : i < n) (fits : n * 321 ≤ length s) where
  pub answer-size : length (answer_at v x b (group_at s i n)) ≡ records_by v (group_at s i n) * 321
  unfolding answer_at
  answer-size = go v
    where
      go : (w : Result Posted ℕ) → length (answer_at w x b (group_at s i n)) ≡ records_by w (group_at s i n) * 321
      go (Ok amounts) =
          ap (λ (r : List ℕ). length (answer_at (Ok amounts) x b (record { header = r; details = (group_at s i n).details }))) (header_is s i n)
          ∙ length-acf (record_at s i) (omega (arith, long-record s i (omega arith))) (record { terms = b.terms; tracking = x.tracking; today = x.today; confirmation = x.confirmation })
      go (Err m) =
          rw (header_is s i n, length-details s i n, details-are s i n (leading (records_after s i n)) refl)
          (length-rej s i (leading (records_after s i n)) (record { code = m; today = x.today; confirmation = x.confirmation }) (omega (arith, leading-within s i n)))

  -- as many records as the group at most
  pub records-few : records_by v (group_at s i n) ≤ 1 + leading (records_after s i n)
  records-few = go v
    where
      go : (w : Result Posted ℕ) → records_by w (group_at s i n) ≤ 1 + leading (records_after s i n)
      go (Ok amounts) = omega arith
      go (Err m) = omega (arith, length-details s i n)

  -- r is its length
  abbrev Sized : ℕ → Type 0
  Sized r = (r ≡ length (answer_at v x b (group_at s i n))) × (r ≤ (n - i) * 321)

  sized : (r : ℕ) → r ≡ records_by v (group_at s i n) * 321 → Sized r
  sized r e = (e ∙ sym answer-size, omega (arith, e, records-few, leading-within s i n))

  pub sized-acf : (amounts : Posted) → v ≡ Ok amounts → Sized 321
  sized-acf amounts e = sized 321 (rw e)

  pub sized-rej : (m : ℕ) → v ≡ Err m → (k : ℕ) → k ≡ leading (records_after s i n) → Sized ((k + 1) * 321)
  sized-rej m e k l = sized ((k + 1) * 321) (rw e (ap (λ (j : ℕ). (j + 1) * 321) (l ∙ sym (length-details s i n))))

  pub answer-long : length (answer_at v x b (group_at s i n)) ≤ (1 + leading (records_after s i n)) * 321
  answer-long = omega (arith, answer-size, records-few)
