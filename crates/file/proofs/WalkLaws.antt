-- The groups before and after a record make the file's, and what they hold by record number. Assumes nothing.
use mathlib.Core.Path.{◌≡◌, refl, sym, ap, ◌∙◌}
use mathlib.Core.Bool.{Bool, true, false, cond, ◌||◌, or_assoc, or-true}
use mathlib.Core.List.{List, [], ◌∷◌, ◌++◌, append-nil}
use Prim.Native.Nat.{ℕ, zero, suc, ◌+◌, ◌-◌, ◌≤◌, ◌<◌}
use native.Mathlib.Omega.{arith}
use native.Mathlib.Numerals.{add-one}
use native.Mathlib.Nat.{not-suc-le-zero}
use native.Mathlib.Decide.{dec_le}
use Rattle.rules.specs.Lists.{has}
use Rattle.records.specs.Layout.{record_at, records_from}
use Rattle.file.specs.File.{is_header, Group, groups}
use Rattle.file.specs.parts.Walk.{group_at, before, later}
use Rattle.file.proofs.FileLaws.{groups-header, groups-detail, groups-end}

-- one record more
module _ (s : List ℕ) (n i : ℕ) where
  pub before-header : is_header (record_at s i) ≡ true → before s n (i + 1) ≡ before s n i ++ (group_at s i n ∷ [])
  unfolding before
  before-header e = rw (add-one i, e)

  pub before-detail : is_header (record_at s i) ≡ false → before s n (i + 1) ≡ before s n i
  unfolding before
  before-detail e = rw (add-one i, e) (append-nil (before s n i))

-- ---- a test over the groups by record number
module _ {A : Type 0} (p : A → Bool) where
  pub has-append : (xs ys : List A) → has p (xs ++ ys) ≡ (has p xs || has p ys)
  has-append [] ys = refl
  has-append (x ∷ xs) ys = ap (λ (b : Bool). p x || b) (has-append xs ys) ∙ sym (or_assoc (p x) (has p xs) (has p ys))

module _ (s : List ℕ) (n : ℕ) (p : Group → Bool) where
  -- no group before record i passes
  pub before-none : (i : ℕ) → ((j : ℕ) → j < i → is_header (record_at s j) ≡ true → p (group_at s j n) ≡ false) → has p (before s n i) ≡ false
  unfolding before
  before-none zero f = refl
  before-none (suc i) f =
      has-append p (before s n i) _ ∙ rw (before-none i (λ j h. f j (omega arith))) (go (is_header (record_at s i)) refl)
    where
      go : (b : Bool) → is_header (record_at s i) ≡ b → has p (cond b (group_at s i n ∷ []) []) ≡ false
      go true e = rw (f i (omega arith) e)
      go false e = refl

  -- one does
  pub before-hit : (i j : ℕ) → j < i → is_header (record_at s j) ≡ true → p (group_at s j n) ≡ true → has p (before s n i) ≡ true
  unfolding before
  before-hit zero j h e k = absurd (not-suc-le-zero h)
  before-hit (suc i) j h e k = has-append p (before s n i) _ ∙ go (λ l. before-hit i j l e k) (dec_le i j)
    where
      go : (j < i → has p (before s n i) ≡ true) → Dec (i ≤ j) → (has p (before s n i) || has p (cond (is_header (record_at s i)) (group_at s i n ∷ []) [])) ≡ true
      go r (yes l) =
          let z : j ≡ i = omega arith in
          let u : is_header (record_at s i) ≡ true = ap (λ (m : ℕ). is_header (record_at s m)) (sym z) ∙ e in
          let v : p (group_at s i n) ≡ true = ap (λ (m : ℕ). p (group_at s m n)) (sym z) ∙ k in
          rw (u, v) (or-true (has p (before s n i)))
      go r (no l) = rw (r (omega arith))

  -- the same for the groups from record i on; d is how many records there are
  from-none : (d i : ℕ) → n ≤ i + d → ((j : ℕ) → i ≤ j → j < n → is_header (record_at s j) ≡ true → p (group_at s j n) ≡ false)
      → has p (groups (records_from s i (n - i))) ≡ false
  from-none zero i l f = ap (has p) (groups-end s i n (omega arith))
  from-none (suc d) i l f = go (from-none d (i + 1) (omega arith) (λ j h. f j (omega arith))) (dec_le n i)
    where
      by : has p (groups (records_from s (i + 1) (n - (i + 1)))) ≡ false → i < n → (b : Bool) → is_header (record_at s i) ≡ b
          → has p (groups (records_from s i (n - i))) ≡ false
      by r h true e = ap (has p) (groups-header s i n h e) ∙ rw (f i (omega arith) h e) r
      by r h false e = ap (has p) (groups-detail s i n h e) ∙ r

      go : has p (groups (records_from s (i + 1) (n - (i + 1)))) ≡ false → Dec (n ≤ i) → has p (groups (records_from s i (n - i))) ≡ false
      go r (yes h) = ap (has p) (groups-end s i n h)
      go r (no h) = by r (omega arith) (is_header (record_at s i)) refl

  from-hit : (d i j : ℕ) → j ≡ i + d → j < n → is_header (record_at s j) ≡ true → p (group_at s j n) ≡ true
      → has p (groups (records_from s i (n - i))) ≡ true
  from-hit zero i j z h e k =
      let y : j ≡ i = omega arith in
      let u : is_header (record_at s i) ≡ true = ap (λ (m : ℕ). is_header (record_at s m)) (sym y) ∙ e in
      let v : p (group_at s i n) ≡ true = ap (λ (m : ℕ). p (group_at s m n)) (sym y) ∙ k in
      ap (has p) (groups-header s i n (omega arith) u) ∙ rw v
  from-hit (suc d) i j z h e k = go (from-hit d (i + 1) j (omega arith) h e k) (is_header (record_at s i)) refl
    where
      go : has p (groups (records_from s (i + 1) (n - (i + 1)))) ≡ true → (b : Bool) → is_header (record_at s i) ≡ b → has p (groups (records_from s i (n - i))) ≡ true
      go r true u = ap (has p) (groups-header s i n (omega arith) u) ∙ rw r (or-true (p (group_at s i n)))
      go r false u = ap (has p) (groups-detail s i n (omega arith) u) ∙ r

  -- the groups other than that of record i
  module _ (i : ℕ) where
    pub others-none : ((j : ℕ) → j < n → (j ≡ i → ⊥) → is_header (record_at s j) ≡ true → p (group_at s j n) ≡ false)
        → i < n → has p (before s n i ++ later s n i) ≡ false
    others-none f h =
        has-append p (before s n i) (later s n i)
        ∙ rw (
          before-none i (λ j l. f j (omega arith) (λ z. omega arith)),
          from-none n (i + 1) (omega arith) (λ j l m. f j m (λ z. omega arith)),
        )

    pub others-hit : (j : ℕ) → j < n → (j ≡ i → ⊥) → is_header (record_at s j) ≡ true → p (group_at s j n) ≡ true
        → has p (before s n i ++ later s n i) ≡ true
    others-hit j h d e k = has-append p (before s n i) (later s n i) ∙ go (dec_le i j)
      where
        go : Dec (i ≤ j) → (has p (before s n i) || has p (later s n i)) ≡ true
        go (yes l) =
            let m : i < j = omega (arith, d) in
            rw (from-hit (j - (i + 1)) (i + 1) j (omega arith) h e k) (or-true (has p (before s n i)))
        go (no l) = rw (before-hit i j (omega arith) e k)
