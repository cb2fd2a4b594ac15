-- Laws of a REJ's details. Assumes nothing.
use mathlib.Core.Path.{◌≡◌, refl, sym, ap, ◌∙◌}
use mathlib.Core.Bool.{Bool}
use mathlib.Core.List.{List, [], ◌∷◌, ◌++◌, append_assoc, append-nil}
use Prim.Native.Nat.{ℕ, zero, suc, ◌+◌, ◌*◌, ◌≤◌}
use native.Mathlib.Omega.{arith}
use native.Mathlib.Numerals.{add-one}
use lib.ListN.{length, length-append}
use Rattle.notices.specs.declared.rej.Rej.{Rej}
use Rattle.records.specs.Layout.{record_at, records_from, is_sup}
use Rattle.records.proofs.LayoutLaws.{long-record, records-snoc}
use Rattle.notices.specs.Answers.{rej_header, rej_detail, rej_details, rej}
use Rattle.notices.proofs.AnswerLaws.{length-rej-header, length-rej-detail}

module _ (sup : Bool) (x : Rej) where
  details-snoc : (ds : List (List ℕ)) (d : List ℕ) → rej_details sup (ds ++ (d ∷ [])) x ≡ rej_details sup ds x ++ rej_detail sup d x
  unfolding rej_details
  details-snoc [] d = append-nil (rej_detail sup d x)
  details-snoc (y ∷ ds) d =
      ap (λ (l : List ℕ). rej_detail sup y x ++ l) (details-snoc ds d)
      ∙ sym (append_assoc (rej_detail sup y x) (rej_details sup ds x) (rej_detail sup d x))

  -- the details of the first records, none and one more
  pub details-none : (s : List ℕ) (i : ℕ) → rej_details sup (records_from s i 0) x ≡ []
  unfolding rej_details records_from
  details-none s i = refl

  pub details-more : (s : List ℕ) (i j : ℕ)
      → rej_details sup (records_from s i (j + 1)) x ≡ rej_details sup (records_from s i j) x ++ rej_detail sup (record_at s (i + j)) x
  details-more s i j =
      ap (λ (k : ℕ). rej_details sup (records_from s i k) x) (add-one j)
      ∙ ap (λ (rs : List (List ℕ)). rej_details sup rs x) (records-snoc s i j)
      ∙ details-snoc (records_from s i j) (record_at s (i + j))

  pub long-detail : (s : List ℕ) (i : ℕ) → i * 321 + 321 ≤ length s → length (rej_detail sup (record_at s i) x) ≡ 321
  long-detail s i h = length-rej-detail (record_at s i) (omega (arith, long-record s i h)) sup x

  pub long-details : (s : List ℕ) (i k : ℕ) → (i + k) * 321 ≤ length s → length (rej_details sup (records_from s i k) x) ≡ k * 321
  unfolding rej_details records_from
  long-details s i zero h = refl
  long-details s i (suc k) h =
      length-append (rej_detail sup (record_at s i) x) (rej_details sup (records_from s (i + 1) k) x)
      ∙ (let e = long-details s (i + 1) k (omega arith) in
      let f = long-detail s i (omega arith) in
      omega arith)

-- the length of a REJ: as many bytes as the group has
pub length-rej : (s : List ℕ) (i k : ℕ) (x : Rej) → (i + 1 + k) * 321 ≤ length s
    → length (rej (record_at s i) (records_from s (i + 1) k) x) ≡ (k + 1) * 321
unfolding rej
length-rej s i k x h =
    length-append (rej_header (record_at s i) x) (rej_details (is_sup (record_at s i)) (records_from s (i + 1) k) x)
    ∙ (let e = length-rej-header (record_at s i) (omega (arith, long-record s i (omega arith))) x in
    let f = long-details (is_sup (record_at s i)) x s (i + 1) k (omega arith) in
    omega arith)
