-- Laws of `same_list`. Assumes nothing.
use mathlib.Core.Path.{◌≡◌, refl, sym, ap, ◌∙◌}
use mathlib.Core.Bool.{Bool, true, false, false≢true}
use mathlib.Core.List.{List, [], ◌∷◌}
use Prim.Native.Nat.{ℕ, ◌+◌, ◌≤◌, ◌<◌}
use native.Mathlib.Omega.{arith}
use lib.ListN.{length, get_or, drop}
use lib.Seq.{ext_get_or, get_or-take, get_or-drop}
use lib.Dec.{eqb}
use borrow.Author.Tests.{eq-eqb, eqb-true}
use Rattle.fields.specs.Put.{same_list}
use Rattle.fields.specs.Put.{part}
use Rattle.fields.proofs.PutLaws.{length_part}
use Rattle.fields.proofs.BoolLaws.{and_both}

pub same_refl : (xs : List ℕ) → same_list xs xs ≡ true
unfolding same_list
same_refl [] = refl
same_refl (x ∷ xs) = rw (eq-eqb x x refl) (same_refl xs)

pub same_true : (xs ys : List ℕ) → same_list xs ys ≡ true → xs ≡ ys
unfolding same_list
same_true [] [] h = refl
same_true [] (y ∷ ys) h = absurd (false≢true h)
same_true (x ∷ xs) [] h = absurd (false≢true h)
same_true (x ∷ xs) (y ∷ ys) h =
    let p = and_both (eqb x y) (same_list xs ys) h in
    let e : x ≡ y = eqb-true x y p.0 in
    let f : xs ≡ ys = same_true xs ys p.1 in
    cc

pub same_false : (xs ys : List ℕ) → (xs ≡ ys → ⊥) → same_list xs ys ≡ false
same_false xs ys n = go (same_list xs ys) refl
  where
    go : (b : Bool) → same_list xs ys ≡ b → same_list xs ys ≡ false
    go true e = absurd (n (same_true xs ys e))
    go false e = e

pub get_d_part : (xs : List ℕ) (i n k : ℕ) → k < n → get_or (part xs i n) k 0 ≡ get_or xs (i + k) 0
unfolding part
get_d_part xs i n k h = get_or-take n (drop i xs) k 0 h ∙ get_or-drop i xs k 0

module _ (xs ys : List ℕ) (i j n : ℕ) where
  -- two parts whose elements are equal are the same
  pub same_parts : i + n ≤ length xs → j + n ≤ length ys → ((k : ℕ) → k < n → get_or xs (i + k) 0 ≡ get_or ys (j + k) 0)
      → same_list (part xs i n) (part ys j n) ≡ true
  same_parts h l e =
      rw (ext_get_or 0 (part xs i n) (part ys j n) (length_part xs i n h ∙ sym (length_part ys j n l))
      (λ k b. let q : k < n = (omega (arith, length_part xs i n h)) in get_d_part xs i n k q ∙ e k q ∙ sym (get_d_part ys j n k q)))
      (same_refl (part ys j n))

  -- two parts with an element that differs are not
  pub differ-parts : (k : ℕ) → k < n → (get_or xs (i + k) 0 ≡ get_or ys (j + k) 0 → ⊥) → same_list (part xs i n) (part ys j n) ≡ false
  differ-parts k h d =
      same_false (part xs i n) (part ys j n)
      (λ e. d (sym (get_d_part xs i n k h) ∙ ap (λ (l : List ℕ). get_or l k 0) e ∙ get_d_part ys j n k h))
