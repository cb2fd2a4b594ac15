-- The marks of the walk over pairs. Assumes nothing.
use Prim.Native.Nat.{ℕ, zero, suc, ◌+◌, ◌*◌, ◌≤◌, ◌<◌}
use mathlib.Core.Path.{◌≡◌, refl, sym, ap, ◌∙◌}
use mathlib.Core.Bool.{Bool, true, false, not, ◌&&◌, false≢true}
use mathlib.Core.List.{List, ◌++◌}
use native.Mathlib.Omega.{arith}
use lib.ListN.{length, get_or, set, replicate}
use lib.Seq.{get_or-set_same, get_or-set_other}
use lib.Dec.{eqb}
use borrow.Author.Tests.{eqb-true, eqb-false, eq-eqb, ne_eqb, not-true}
use Rattle.fields.proofs.BoolLaws.{and_left, and_right}
use Rattle.records.specs.Layout.{record_at}
use Rattle.file.specs.File.{is_header, alike, passes, line3}
use Rattle.file.specs.parts.Walk.{group_at, before, later, mark_at}
use Rattle.file.proofs.WalkLaws.{others-none, others-hit}
use Rattle.pairs.specs.parts.GroupNumbers.{number_at}
use Rattle.pairs.proofs.GroupNumberLaws.{number-passes, number-not-zero, alike-number}

-- record j matches record i
abbrev pub matches : List ℕ → ℕ → ℕ → ℕ → Bool
matches s n i j = eqb (number_at s n j) (number_at s n i) && not (eqb j i)

module _ (s : List ℕ) (n : ℕ) (b : n * 321 ≤ length s) (i : ℕ) (h : i < n) where
  -- a match was met
  pub mark-hit : (number_at s n i ≡ 0 → ⊥) → (j : ℕ) → j < n → matches s n i j ≡ true → mark_at s n i ≡ true
  unfolding mark_at line3
  mark-hit z j l m =
      let q = number-passes s n b i z in
      let e = eqb-true (number_at s n j) (number_at s n i) (and_left (eqb (number_at s n j) (number_at s n i)) (not (eqb j i)) m) in
      let d = eqb-false j i (not-true (eqb j i) (and_right (eqb (number_at s n j) (number_at s n i)) (not (eqb j i)) m)) in
      let p = number-passes s n b j (λ y. z (sym e ∙ y)) in
      rw (q.0, q.1)
      (others-hit s n (alike (group_at s i n)) i j l d p.0 (alike-number s n b i j z p.0 ∙ eq-eqb (number_at s n j) (number_at s n i) e))

  -- none was
  pub mark-miss : (number_at s n i ≡ 0 → ⊥) → ((j : ℕ) → j < n → matches s n i j ≡ false) → mark_at s n i ≡ false
  unfolding mark_at line3
  mark-miss z f =
      let q = number-passes s n b i z in
      rw (q.0, q.1)
      (others-none s n (alike (group_at s i n)) i (λ j l d e. alike-number s n b i j z e ∙ go j d (eqb (number_at s n j) (number_at s n i)) (f j l)) h)
    where
      go : (j : ℕ) → (j ≡ i → ⊥) → (t : Bool) → (t && not (eqb j i)) ≡ false → t ≡ false
      go j d true e = absurd (false≢true (sym e ∙ ap not (ne_eqb j i d)))
      go j d false e = refl

  -- a record without a number
  pub mark-none : number_at s n i ≡ 0 → mark_at s n i ≡ false
  unfolding mark_at
  mark-none z = go (is_header (record_at s i)) refl (passes (group_at s i n)) refl
    where
      go : (t : Bool) → is_header (record_at s i) ≡ t → (u : Bool) → passes (group_at s i n) ≡ u
          → (t && u && line3 (before s n i ++ later s n i) (group_at s i n)) ≡ false
      go true e true f = absurd (number-not-zero s n b i e f z)
      go true e false f = refl
      go false e u f = refl

-- ---- the marks before place i are right, and none is set from there on
abbrev pub Marked : List Bool → (ℕ → Bool) → ℕ → Type 0
Marked m f i = ((k : ℕ) → k < i → get_or m k false ≡ f k) × ((k : ℕ) → i ≤ k → get_or m k false ≡ false)

pub marked-stay : (m : List Bool) (f : ℕ → Bool) (i : ℕ) → f i ≡ false → Marked m f i → Marked m f (i + 1)
marked-stay m f i e w = ((λ k h. go k h (eqb k i) refl), (λ k h. w.1 k (omega arith)))
  where
    go : (k : ℕ) → k < i + 1 → (t : Bool) → eqb k i ≡ t → get_or m k false ≡ f k
    go k h true p = let q = eqb-true k i p in w.1 k (omega arith) ∙ sym e ∙ ap f (sym q)
    go k h false p = let q = eqb-false k i p in w.0 k (omega (arith, q))

pub marked-set : (m : List Bool) (f : ℕ → Bool) (i : ℕ) → i < length m → f i ≡ true → Marked m f i → Marked (set m i true) f (i + 1)
marked-set m f i b e w = ((λ k h. go k h (eqb k i) refl), (λ k h. get_or-set_other m i k true false (omega arith) ∙ w.1 k (omega arith)))
  where
    go : (k : ℕ) → k < i + 1 → (t : Bool) → eqb k i ≡ t → get_or (set m i true) k false ≡ f k
    go k h true p =
        let q = eqb-true k i p in
        ap (λ (o : ℕ). get_or (set m i true) o false) q ∙ get_or-set_same m i true false b ∙ sym e ∙ ap f (sym q)
    go k h false p = let q = eqb-false k i p in get_or-set_other m i k true false (omega arith) ∙ w.0 k (omega (arith, q))

none-set : (n k : ℕ) → get_or (replicate n false) k false ≡ false
none-set zero k = refl
none-set (suc n) zero = refl
none-set (suc n) (suc k) = none-set n k

pub unmarked : (n : ℕ) (f : ℕ → Bool) → Marked (replicate n false) f 0
unmarked n f = ((λ k h. absurd (omega arith)), (λ k h. none-set n k))
