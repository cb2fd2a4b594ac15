-- What a field that was read says of its bytes, and laws of `holds`. Assumes nothing.
use mathlib.Core.Path.{◌≡◌, refl, sym, ap, ap₂, ◌∙◌, subst}
use mathlib.Core.Bool.{Bool, true, false, cond}
use mathlib.Core.List.{List}
use Prim.Native.Nat.{ℕ, ◌+◌, ◌≤◌, ◌<◌, ◌^◌}
use native.Mathlib.Omega.{arith}
use lib.ListN.{length, get_or, drop, length-take}
use lib.Dec.{eqb}
use borrow.Author.Tests.{eqb-true, eqb-false}
use Rattle.fields.specs.Digits.{digits, number, numeric}
use Rattle.fields.specs.Put.{part, same_list, holds}
use Rattle.fields.specs.Field.{field_of, value}
use Rattle.fields.proofs.BoolLaws.{cases}
use Rattle.fields.proofs.PutLaws.{length_part, part-whole}
use Rattle.fields.proofs.DigitLaws.{number_lt, pow-le, pow_pos, digits_number}
use Rattle.fields.proofs.SameLaws.{same_refl, same_false, same_parts, differ-parts}
use Rattle.std.specs.Prelude.{Some, None, is_some}

-- a field that holds a number is numeric, and that is its number
pub field_is : (xs : List ℕ) (n : ℕ) → field_of xs ≡ Some n → (numeric xs ≡ true) × (n ≡ number xs)
unfolding field_of
field_is xs n e = go (numeric xs) refl e
  where
    go : (b : Bool) → numeric xs ≡ b → cond b (Some (number xs)) None ≡ Some n → (numeric xs ≡ true) × (n ≡ number xs)
    go true h k = (h, cc)
    go false h k = let z : ◌≡◌ {A = ℕ} 0 1 = cc in absurd (omega arith)

pub field-isnt : (xs : List ℕ) → field_of xs ≡ None → numeric xs ≡ false
unfolding field_of
field-isnt xs e = go (numeric xs) refl e
  where
    go : (b : Bool) → numeric xs ≡ b → cond b (Some (number xs)) None ≡ None → numeric xs ≡ false
    go true h k = let z : ◌≡◌ {A = ℕ} 0 1 = cc in absurd (omega arith)
    go false h k = h

-- a field holds a number where it is numeric
pub holds-number : (xs : List ℕ) → is_some (field_of xs) ≡ numeric xs
unfolding field_of
holds-number xs = cases (numeric xs) (λ h. rw h) (λ h. rw h)

-- a part that is compared with a list of its length
pub holds-part : (xs ys : List ℕ) (i n : ℕ) → length ys ≡ n → same_list (part xs i n) ys ≡ holds xs i ys
holds-part xs ys i n e = rw e

-- a list holds another at an index, or not, by their elements
module _ (xs ys : List ℕ) (i : ℕ) where
  whole : part ys 0 (length ys) ≡ ys
  whole = part-whole ys (length ys) refl

  pub holds_same : i + length ys ≤ length xs → ((k : ℕ) → k < length ys → get_or xs (i + k) 0 ≡ get_or ys (0 + k) 0) → holds xs i ys ≡ true
  holds_same h e = rw whole at (same_parts xs ys i 0 (length ys) h (omega arith) e)

  pub holds-differ : (k : ℕ) → k < length ys → (get_or xs (i + k) 0 ≡ get_or ys (0 + k) 0 → ⊥) → holds xs i ys ≡ false
  holds-differ k h d = rw whole at (differ-parts xs ys i 0 (length ys) k h d)

-- a number read of w bytes is below 10 ^ w
pub field_below : (r : List ℕ) (at w n : ℕ) → at + w ≤ length r → field_of (part r at w) ≡ Some n → n < 10 ^ w
field_below r at w n h e =
    let f = field_is (part r at w) n e in
    rw f.1 (subst (λ (k : ℕ). number (part r at w) < 10 ^ k) (length_part r at w h) (number_lt (part r at w) f.0))

-- a number of at most w bytes
pub small-value : (xs : List ℕ) (w : ℕ) → length xs ≤ w → value (field_of xs) < 10 ^ w
unfolding field_of
small-value xs w h =
    cases (numeric xs)
    (λ e. let p = number_lt xs e in let q = pow-le (length xs) w h in rw e (omega arith))
    (λ e. rw e (pow_pos w))

pub length-part-le : (r : List ℕ) (at w : ℕ) → length (part r at w) ≤ w
unfolding part
length-part-le r at w = omega (arith, length-take w (drop at r))

pub value-number : (xs : List ℕ) → numeric xs ≡ true → value (field_of xs) ≡ number xs
unfolding field_of
value-number xs p = rw p

-- two numeric lists of one length are equal where their numbers are
pub same_number : (xs ys : List ℕ) → numeric xs ≡ true → numeric ys ≡ true → length xs ≡ length ys → same_list xs ys ≡ eqb (number xs) (number ys)
same_number xs ys p q e = go (eqb (number xs) (number ys)) refl
  where
    go : (t : Bool) → eqb (number xs) (number ys) ≡ t → same_list xs ys ≡ t
    go true h =
        let z : xs ≡ ys = sym (digits_number xs p) ∙ ap₂ digits e (eqb-true (number xs) (number ys) h) ∙ digits_number ys q in
        ap (same_list xs) (sym z) ∙ same_refl xs
    go false h = same_false xs ys (λ z. eqb-false (number xs) (number ys) h (ap number z))
