-- `fields::is_digits` meets its contract. The invariant: the bytes from at + i on are the last digits of n, and m is what is left of n.
use Prim.Native.Nat.{ℕ, ◌+◌, ◌-◌, ◌/◌, ◌%◌, ◌^◌, ◌≤◌, ◌<◌, suc}
use mathlib.Core.Path.{◌≡◌, sym, ap, ◌∙◌}
use native.Mathlib.Omega.{arith}
use native.Mathlib.Nat.{zero-add}
use native.Mathlib.Decide.{dec_le}
use lib.ListN.{length, get_or}
use Rattle.fields.specs.Digits.{digits}
use Rattle.fields.proofs.DigitLaws.{digits-at, div-more, length_digits}
use Rattle.fields.proofs.HoldLaws.{holds_same, holds-differ}
use Rattle.fields.proofs.is_digits.Goals as goal

-- the digit that the turn compares
turn : (w n m i : ℕ) → 0 < i → i ≤ w → m ≡ n / 10 ^ (w - i) → get_or (digits w n) (0 + (i - 1)) 0 ≡ 48 + m % 10
turn w n m i h k e =
    let f : w - suc (i - 1) ≡ w - i = omega arith in
    ap (λ (j : ℕ). get_or (digits w n) j 0) (zero-add (i - 1))
    ∙ digits-at w n (i - 1) (omega arith)
    ∙ ap (λ (j : ℕ). 48 + n / 10 ^ j % 10) f
    ∙ ap (λ (j : ℕ). 48 + j % 10) (sym e)

pub returns-then-s-at : goal.returns-then-s-at
returns-then-s-at c =
    let a = c.args in
    let l = c.loop-i in
    let g : l.i - 1 < length (digits a.width a.n) = rw length_digits (omega arith) in
    let t : get_or (digits a.width a.n) (0 + (l.i - 1)) 0 ≡ 48 + l.m % 10 = turn _ _ _ _ (omega arith) c.loop-i.auto.i l.invariant.1 in
    rw length_digits at (sym (holds-differ a.s.now (digits a.width a.n) a.at (l.i - 1) g (λ e. c.if-s-at.true (e ∙ t))))

pub loop-i-preserved : goal.loop-i-preserved
loop-i-preserved c =
    let a = c.args in
    let l = c.loop-i in
    let t : get_or (digits a.width a.n) (0 + (l.i - 1)) 0 ≡ 48 + l.m % 10 = turn _ _ _ _ (omega arith) c.loop-i.auto.i l.invariant.1 in (
      λ k h j. elim (dec_le l.i k) [
        | yes g ↦ l.invariant.0 k g j
        | no g ↦ (let e : k ≡ l.i - 1 = omega arith in rw e (c.if-s-at.false ∙ sym t))
      ],
      ap (λ (m : ℕ). m / 10) l.invariant.1 ∙ div-more a.n a.width l.i (omega arith) (omega arith),
    )

pub returns : goal.returns
returns c =
    let a = c.args in
    let e : length (digits a.width a.n) ≡ a.width = length_digits _ _ in
    rw length_digits at (sym (holds_same a.s.now (digits a.width a.n) a.at (omega arith) (λ k h. c.loop-i.invariant.0 k (omega arith) (omega arith))))
