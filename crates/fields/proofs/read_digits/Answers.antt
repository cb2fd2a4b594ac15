use Prim.Native.Nat.{ℕ, ◌+◌, ◌-◌, ◌*◌, ◌^◌, ◌≤◌, ◌<◌}
use mathlib.Core.Path.{◌≡◌, refl, sym, ap, ◌∙◌}
use mathlib.Core.Bool.{true}
use mathlib.Core.List.{List, [], ◌∷◌, ◌++◌}
use native.Mathlib.Omega.{arith}
use lib.ListN.{length, take, get_or}
use lib.Seq.{length-take-le, take_all}
use Rattle.fields.specs.Digits.{number, numeric}
use Rattle.fields.proofs.PutLaws.{take_more}
use Rattle.fields.proofs.DigitLaws.{number_lt, number-snoc, numeric-snoc, numeric-at, pow-le, field-number, field-not, is_digit-range}
use Rattle.fields.proofs.read_digits.Goals as goal

-- the number so far has at most eighteen digits
small : (f : List ℕ) (n i : ℕ) → i < length f → length f ≤ 19 → numeric (take i f) ≡ true → n ≡ number (take i f) → n < 10 ^ 18
small f n i h l k e =
    let p : number (take i f) < 10 ^ length (take i f) = number_lt (take i f) k in
    let q : 10 ^ length (take i f) ≤ 10 ^ 18 = pow-le (length (take i f)) 18 (omega (arith, length-take-le i f (omega arith))) in
    omega arith

pub loop-x-init : goal.loop-x-init
unfolding numeric number
loop-x-init c = (refl, refl)

pub returns-then-not-is_digit : goal.returns-then-not-is_digit
returns-then-not-is_digit c =
    let f = c.args.f.now in
    field-not f (numeric-at f c.loop-x.x-index (omega arith) (sym c.is_digit.ensures ∙ c.if-not-is_digit.true))

pub overflow_sub-x : goal.overflow_sub-x
overflow_sub-x c = (is_digit-range _ (sym c.is_digit.ensures ∙ c.if-not-is_digit.false)).0

pub overflow_mul-n : goal.overflow_mul-n
overflow_mul-n c = let l = c.loop-x in omega (arith, small c.args.f.now l.n l.x-index (omega arith) (omega arith) l.invariant.0 l.invariant.1)

pub overflow_add-n : goal.overflow_add-n
overflow_add-n c = let l = c.loop-x in omega (arith, small c.args.f.now l.n l.x-index (omega arith) (omega arith) l.invariant.0 l.invariant.1)

pub loop-x-preserved : goal.loop-x-preserved
loop-x-preserved c =
    let f = c.args.f.now in
    let l = c.loop-x in
    let t : take (l.x-index + 1) f ≡ take l.x-index f ++ (get_or f l.x-index 0 ∷ []) = take_more f l.x-index (omega arith) in (
      rw t (numeric-snoc (take l.x-index f) (get_or f l.x-index 0) l.invariant.0 (sym c.is_digit.ensures ∙ c.if-not-is_digit.false)),
      rw (t, number-snoc (take l.x-index f) (get_or f l.x-index 0), c.from.ensures) (ap (λ (n : ℕ). n * 10 + (get_or f l.x-index 0 - 48)) l.invariant.1),
    )

pub returns : goal.returns
returns c =
    let f = c.args.f.now in
    let l = c.loop-x in
    let t : take l.x-index f ≡ f = take_all l.x-index f (omega arith) in
    field-number f l.n (rw t at l.invariant.0) (rw t at l.invariant.1)
