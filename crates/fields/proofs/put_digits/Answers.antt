-- `fields::put_digits` meets its contract. The invariant: the last width - i digits of n are written from at + i on, and m is what is left of n.
-- Assumes nothing.
use Prim.Native.Nat.{ℕ, ◌+◌, ◌-◌, ◌/◌, ◌%◌, ◌^◌}
use mathlib.Core.Path.{◌≡◌, sym, ap, ap₂, ◌∙◌}
use mathlib.Core.List.{List}
use native.Mathlib.Omega.{arith}
use native.Mathlib.Nat.{div-one}
use lib.ListN.{set}
use Rattle.fields.specs.Put.{put}
use Rattle.fields.specs.Digits.{digits}
use Rattle.fields.proofs.PutLaws.{put-nil}
use Rattle.fields.proofs.DigitLaws.{put-digit, div-more}
use Rattle.fields.proofs.put_digits.Goals as goal

pub loop-i-init : goal.loop-i-init
unfolding digits
loop-i-init c =
    let a = c.args in
    let e : a.width - a.width ≡ 0 = omega arith in (
      put-nil _ _ ∙ ap (λ (k : ℕ). put a.out.now (a.at + a.width) (digits k a.n)) (sym e),
      sym (ap (λ (k : ℕ). a.n / 10 ^ k) e ∙ div-one a.n),
    )

pub loop-i-preserved : goal.loop-i-preserved
loop-i-preserved c =
    let a = c.args in
    let l = c.loop-i in
    let e : l.out ≡ put a.out.now (a.at + l.i) (digits (a.width - l.i) a.n) = l.invariant.0 in
    let f : l.m ≡ a.n / 10 ^ (a.width - l.i) = l.invariant.1 in (
      ap₂ (λ (o : List ℕ) (m : ℕ). set o (a.at + (l.i - 1)) (48 + m % 10)) e f
          ∙ put-digit a.out.now a.at a.width l.i a.n (omega arith) (omega arith) (omega arith),
      ap (λ (m : ℕ). m / 10) f ∙ div-more a.n a.width l.i (omega arith) (omega arith),
    )
