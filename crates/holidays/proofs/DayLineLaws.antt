-- The line that is printed. Assumes nothing.
use Prim.Native.Nat.{ℕ, ◌+◌, ◌≤◌}
use mathlib.Core.Path.{◌≡◌, refl, ap, ◌∙◌}
use mathlib.Core.Bool.{Bool, true, false, cond}
use mathlib.Core.List.{List, [], ◌∷◌}
use native.Mathlib.Omega.{arith}
use lib.Dec.{ltb}
use lib.ListN.{length}
use Rattle.fields.specs.Text.{text}
use Rattle.fields.specs.Digits.{digits}
use Rattle.fields.specs.Put.{put}
use Rattle.fields.proofs.PutLaws.{first, next}
use Rattle.fields.proofs.DigitLaws.{length_digits}
use Rattle.holidays.specs.DayLine.{number_width, refusal_line}

pub width-most : (n : ℕ) → number_width n ≤ 2
width-most n = go (ltb n 10)
  where
    go : (b : Bool) → cond b 1 2 ≤ 2
    go true = omega arith
    go false = omega arith

-- three writes, one after the other
pub refusal-written : (out₀ out₁ out₂ out₃ : List ℕ) (n w : ℕ) → w ≡ number_width n → out₁ ≡ put out₀ 0 (text "stopped,") → out₂ ≡ put out₁ 8 (digits w n)
    → out₃ ≡ put out₂ (8 + w) (10 ∷ []) → (9 + w ≡ length (refusal_line n)) × (out₃ ≡ put out₀ 0 (refusal_line n))
unfolding refusal_line
refusal-written out₀ out₁ out₂ out₃ n w e p q r =
    let z : 8 + w ≡ 0 + (8 + w) = omega arith in
    let w1 = first out₀ 0 (text "stopped,") (omega arith) p refl in
    let w2 = next w1 (digits w n) q (length_digits w n) in
    let w3 = next w2 (10 ∷ []) (r ∙ ap (λ (k : ℕ). put out₂ k (10 ∷ [])) z) refl in
    rw (← e) (omega (arith, w3.long), w3.same)
