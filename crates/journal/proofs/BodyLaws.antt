-- What a field of a body that was read says of its bytes, and the length that goes with a tag. Assumes nothing.
use Prim.Native.Nat.{ℕ, ◌+◌, ◌-◌, ◌<◌, ◌≤◌}
use mathlib.Core.Path.{◌≡◌, sym, ap, ◌∙◌}
use mathlib.Core.Logic.{◌≢◌}
use mathlib.Core.Bool.{true, false, cond, ◌&&◌, false≢true}
use mathlib.Core.List.{List}
use native.Mathlib.Omega.{arith}
use native.Mathlib.Nat.{add-zero}
use lib.Dec.{eqb}
use lib.ListN.{length, get_or, take, drop, length-take, length-drop}
use lib.Seq.{get_or-take, get_or-drop}
use borrow.Author.Tests.{eqb-true, ne_eqb}
use Rattle.fields.proofs.BoolLaws.{cases}
use Rattle.fields.specs.Digits.{number, numeric}
use Rattle.fields.specs.Put.{part}
use Rattle.fields.specs.Field.{field_of}
use Rattle.fields.proofs.HoldLaws.{field-isnt}
use Rattle.ledger.specs.declared.Identity.{Identity}
use Rattle.causes.specs.Causes.{code_field}
use Rattle.journal.specs.parts.Fields.{identity_field_of}
use Rattle.journal.specs.Entries.{good_length}
use Rattle.std.specs.Prelude.{Option, Some, None}

-- ---- what was read of a field says of its bytes
-- it was read as not numeric
pub field-refused : (xs : List ℕ) {f : Option ℕ} → f ≡ field_of xs → f ≡ None → numeric xs ≡ false
field-refused xs e told = field-isnt xs (sym e ∙ told)

-- an account and a key were read as an identity, or as not numeric
module _ (xs ys : List ℕ) where
  pub identity-is : (id : Identity) → identity_field_of xs ys ≡ Some id → ((numeric xs && numeric ys) ≡ true) × (id ≡ record { account = number xs; key = number ys })
  unfolding identity_field_of
  identity-is id e =
      cases (numeric xs && numeric ys)
      (λ t. let h = rw t at e in (t, cc))
      (λ t. let h = rw t at e in let z : ◌≡◌ {A = ℕ} 0 1 = cc in absurd (omega arith))

  pub identity-refused : {f : Option Identity} → f ≡ identity_field_of xs ys → f ≡ None → (numeric xs && numeric ys) ≡ false
  unfolding identity_field_of
  identity-refused e told =
      cases (numeric xs && numeric ys)
      (λ t. let h = rw t at (sym e ∙ told) in let z : ◌≡◌ {A = ℕ} 0 1 = cc in absurd (omega arith))
      (λ t. t)

-- the rate code's field, in the first five bytes
first-five : (s : List ℕ) (k : ℕ) → k < 5 → get_or (part s 0 5) k 0 ≡ get_or s k 0
unfolding part
first-five s k h = get_or-take 5 (drop 0 s) k 0 h ∙ get_or-drop 0 s k 0 ∙ ap (λ (i : ℕ). get_or s i 0) (omega arith)

pub code_in : (s : List ℕ) → code_field (part s 0 5) ≡ code_field s
code_in s =
    rw (first-five s 0 (omega arith), first-five s 1 (omega arith), first-five s 2 (omega arith), first-five s 3 (omega arith), first-five s 4 (omega arith))

-- the byte at a position
pub byte_at : (s : List ℕ) (at : ℕ) → get_or (part s at 1) 0 0 ≡ get_or s at 0
unfolding part
byte_at s at =
    get_or-take 1 (drop at s) 0 0 (omega arith) ∙ get_or-drop at s 0 0 ∙ ap (λ (k : ℕ). get_or s k 0) (add-zero at)

-- ---- the length that goes with a tag
pub fresh-length : (tag n : ℕ) → tag ≡ 0 → good_length tag n ≡ true → n ≡ 26
unfolding good_length
fresh-length tag n e g = eqb-true n 26 (rw e at g)

pub request-length : (tag n : ℕ) → tag ≡ 1 → good_length tag n ≡ true → n ≡ 56
unfolding good_length
request-length tag n e g = eqb-true n 56 (rw e at g)

pub cancel-length : (tag n : ℕ) → tag ≡ 3 → good_length tag n ≡ true → n ≡ 16
unfolding good_length
cancel-length tag n e g = eqb-true n 16 (rw e at g)

pub close-length : (tag n : ℕ) → tag ≡ 4 → good_length tag n ≡ true → n ≡ 8
unfolding good_length
close-length tag n e g = eqb-true n 8 (rw e at g)

pub removal-length : (tag n : ℕ) → tag ≢ 0 → tag ≢ 1 → tag ≢ 2 → tag ≢ 3 → tag ≢ 4 → good_length tag n ≡ true → n ≡ 20
unfolding good_length
removal-length tag n a b d e f g =
    let h : cond (eqb tag 5) (eqb n 20) false ≡ true = rw (ne_eqb tag 0 a, ne_eqb tag 1 b, ne_eqb tag 2 d, ne_eqb tag 3 e, ne_eqb tag 4 f) at g in
    cases (eqb tag 5) (λ k. eqb-true n 20 (rw k at h)) (λ k. absurd (false≢true (rw k at h)))

-- the body's bytes, as they are lent
pub lent_length : (s : List ℕ) (n : ℕ) → n + 3 ≤ length s → length (take (n + 3 - 3) (drop 3 s)) ≡ n
lent_length s n h = omega (arith, length-take (n + 3 - 3) (drop 3 s), length-drop 3 s)

pub lent-part : (s : List ℕ) (n : ℕ) → take (n + 3 - 3) (drop 3 s) ≡ part s 3 n
unfolding part
lent-part s n = let e : n + 3 - 3 ≡ n = omega arith in rw e
