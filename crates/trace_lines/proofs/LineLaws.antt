-- The parts of an entry's line: the sign, the name of the call, the lengths. Assumes nothing.
use Prim.Native.Nat.{ℕ, ◌+◌, ◌≤◌}
use mathlib.Core.Path.{◌≡◌, refl, sym, ap, ◌∙◌}
use mathlib.Core.Bool.{Bool, true, false, cond}
use mathlib.Core.List.{List, ◌++◌}
use native.Mathlib.Omega.{arith}
use lib.Dec.{eqb}
use lib.IntN.{ℤ, pos, negsuc, nat_abs}
use lib.ListN.{length, length-append}
use lib.Signed.{lt_z}
use mir.Syntax.{w64}
use mir.Val.{SFits, to_z, of_z}
use mir.ValLaws.{to_z-of_z}
use borrow.Author.Tests.{ne_eqb, ltb-true}
use Rattle.fields.specs.Text.{text}
use Rattle.fields.specs.Digits.{digits}
use Rattle.fields.specs.Put.{put}
use Rattle.fields.proofs.DigitLaws.{length_digits}
use Rattle.fields.proofs.PutLaws.{first, next}
use Rattle.table.specs.Table.{cell, ended}
use Rattle.table.proofs.TableLaws.{length-cell, length-number}
use Rattle.trace_lines.specs.Lines.{call_name, sign_of, change_text, figure_cells, answer_cells, call_line}
use Rattle.std.specs.Prelude.{Result, Ok, Err}
use Rattle.calls.specs.declared.Returned.{Returned}

-- ---- the sign, by the test that the code makes
sign-by : (x : ℤ) (b : Bool) → lt_z x (pos 0) ≡ b → sign_of x ≡ cond b (text "-") (text "0")
sign-by (pos n) true e = absurd (omega (arith, ltb-true n 0 e))
sign-by (pos n) false e = refl
sign-by (negsuc n) true e = refl
sign-by (negsuc n) false e = let z : ◌≡◌ {A = ℕ} 0 1 = cc in absurd (omega arith)

pub sign-put : (xs out : List ℕ) (at : ℕ) (x : ℤ) (b : Bool) → SFits w64 x → lt_z (to_z w64 (of_z w64 x)) (pos 0) ≡ b
    → out ≡ put xs at (cond b (text "-") (text "0")) → out ≡ put xs at (sign_of x)
sign-put xs out at x b f e o =
    o ∙ ap (put xs at) (sym (sign-by x b (ap (λ (z : ℤ). lt_z z (pos 0)) (sym (to_z-of_z w64 x f)) ∙ e)))

pub length-sign : (x : ℤ) → length (sign_of x) ≡ 1
length-sign (pos n) = refl
length-sign (negsuc n) = refl

-- ---- the name of a call
module _ (tag : ℕ) where
  pub name-fresh : tag ≡ 0 → call_name tag ≡ text "fresh"
  unfolding call_name
  name-fresh e = rw e

  pub name-request : tag ≡ 1 → call_name tag ≡ text "request"
  unfolding call_name
  name-request e = rw e

  pub name-file : tag ≡ 2 → call_name tag ≡ text "file"
  unfolding call_name
  name-file e = rw e

  pub name-cancel : tag ≡ 3 → call_name tag ≡ text "cancel"
  unfolding call_name
  name-cancel e = rw e

  pub name-close : tag ≡ 4 → call_name tag ≡ text "close"
  unfolding call_name
  name-close e = rw e

  pub name-removal : (tag ≡ 0 → ⊥) → (tag ≡ 1 → ⊥) → (tag ≡ 2 → ⊥) → (tag ≡ 3 → ⊥) → (tag ≡ 4 → ⊥) → call_name tag ≡ text "removal"
  unfolding call_name
  name-removal a b c d e = rw (ne_eqb tag 0 a, ne_eqb tag 1 b, ne_eqb tag 2 c, ne_eqb tag 3 d, ne_eqb tag 4 e)

  pub short-name : length (cell (call_name tag)) ≤ 8
  unfolding call_name cell
  short-name = go (eqb tag 0) (eqb tag 1) (eqb tag 2) (eqb tag 3) (eqb tag 4)
    where
      go : (a b c d e : Bool)
          → length (cond a (text "fresh") (cond b (text "request") (cond c (text "file") (cond d (text "cancel") (cond e (text "close") (text "removal"))))) ++ text ",") ≤ 8
      go true b c d e = omega arith
      go false true c d e = omega arith
      go false false true d e = omega arith
      go false false false true e = omega arith
      go false false false false true = omega arith
      go false false false false false = omega arith

-- ---- lengths
pub length-change : (x : ℤ) → length (change_text x) ≡ 17
unfolding change_text
length-change x = simp (length-append, length-sign, length_digits)

pub length_last : (w n : ℕ) → length (ended (digits w n)) ≡ w + 1
unfolding ended
length_last w n = simp (length-append, length_digits)

pub length-figures : (cause : ℕ) (change : ℤ) (accepted rejected closed : ℕ) → length (figure_cells cause change accepted rejected closed) ≡ 33
unfolding figure_cells
length-figures cause change accepted rejected closed = simp (length-append, length-cell, length_digits, length-change, length_last)

pub length-answer : (a : Result Returned ℕ) → length (answer_cells a) ≡ 33
length-answer (Ok r) = length-figures 0 r.change r.accepted r.rejected r.closed
length-answer (Err n) = length-figures n (pos 0) 0 0 0

-- ---- a line from its three parts
pub line-put : (xs o₁ o₂ o₃ : List ℕ) (at number tag e : ℕ) (a : Result Returned ℕ) → at ≤ length xs → o₁ ≡ put xs at (cell (digits 10 number))
    → o₂ ≡ put o₁ (at + 11) (cell (call_name tag)) → e ≡ at + 11 + length (cell (call_name tag)) → o₃ ≡ put o₂ e (answer_cells a)
    → (o₃ ≡ put xs at (call_line number tag a)) × (e + 33 ≡ at + length (call_line number tag a)) × (e + 33 ≤ at + 52)
unfolding call_line
line-put xs o₁ o₂ o₃ at number tag e a h p q l r =
    let m : e ≡ at + (11 + length (cell (call_name tag))) = omega arith in
    let w1 = first xs at (cell (digits 10 number)) h p (length-number 10 number) in
    let w2 = next w1 (cell (call_name tag)) q refl in
    let w3 = next w2 (answer_cells a) (r ∙ ap (λ (k : ℕ). put o₂ k (answer_cells a)) m) (length-answer a) in
    (w3.same, omega (arith, w3.long), omega (arith, l, short-name tag))

-- ---- its parts from theirs; z is the signed number as the machine has it
pub change-put : (xs o₁ o₂ o₃ : List ℕ) (at m : ℕ) (z x : ℤ) → z ≡ x → at ≤ length xs → o₁ ≡ put xs at (sign_of z)
    → o₂ ≡ put o₁ (at + 1) (digits 16 m) → m ≡ nat_abs z → o₃ ≡ put o₂ (at + 17) (text ",") → o₃ ≡ put xs at (cell (change_text x))
unfolding cell change_text
change-put xs o₁ o₂ o₃ at m z x e h p q l r =
    let w1 = first xs at (sign_of z) h p (length-sign z) in
    let w2 = next w1 (digits 16 m) q (length_digits 16 m) in
    let w3 = next w2 (text ",") r refl in
    w3.same
    ∙ ap (λ (n : ℕ). put xs at (sign_of z ++ digits 16 n ++ text ",")) l
    ∙ ap (λ (y : ℤ). put xs at (sign_of y ++ digits 16 (nat_abs y) ++ text ",")) e

pub figures-put : (xs o₁ o₂ o₃ o₄ o₅ : List ℕ) (at cause : ℕ) (z x : ℤ) (accepted rejected closed : ℕ) → z ≡ x → at ≤ length xs
    → o₁ ≡ put xs at (cell (digits 2 cause)) → o₂ ≡ put o₁ (at + 3) (cell (change_text z)) → o₃ ≡ put o₂ (at + 21) (cell (digits 3 accepted))
    → o₄ ≡ put o₃ (at + 25) (cell (digits 3 rejected)) → o₅ ≡ put o₄ (at + 29) (ended (digits 3 closed))
    → o₅ ≡ put xs at (figure_cells cause x accepted rejected closed)
unfolding figure_cells
figures-put xs o₁ o₂ o₃ o₄ o₅ at cause z x accepted rejected closed e h p₁ p₂ p₃ p₄ p₅ =
    let w1 = first xs at (cell (digits 2 cause)) h p₁ (length-number 2 cause) in
    let w2 = next w1 (cell (change_text z)) p₂ (length-cell (change_text z) ∙ ap (λ (n : ℕ). n + 1) (length-change z)) in
    let w3 = next w2 (cell (digits 3 accepted)) p₃ (length-number 3 accepted) in
    let w4 = next w3 (cell (digits 3 rejected)) p₄ (length-number 3 rejected) in
    (next w4 (ended (digits 3 closed)) p₅ (length_last 3 closed)).same
    ∙ ap (λ (y : ℤ). put xs at (cell (digits 2 cause) ++ cell (change_text y) ++ cell (digits 3 accepted) ++ cell (digits 3 rejected) ++ ended (digits 3 closed))) e
