-- `notices::put_alike` meets its contract: seven writes, one after the other.
use native.Mathlib.Omega.{arith}
use native.Mathlib.Nat.{add-zero}
use Rattle.fields.proofs.PutLaws.{first, next}
use mathlib.Core.Path.{refl}
use Rattle.fields.proofs.DigitLaws.{length_digits}
use Rattle.notices.specs.Notices.{alike_fields}
use Rattle.notices.proofs.put_alike.Goals as goal

pub returns : goal.returns
unfolding alike_fields
returns c =
    let a = c.args in
    let w1 = first a.out.now a.at _ (omega (arith, c.requires)) (rw (add-zero a.at) at c.put_text.ensures) refl in
    let w2 = next w1 _ c.put_code.ensures refl in
    let w3 = next w2 _ c.put_number.ensures (length_digits 12 _) in
    let w4 = next w3 _ c.put_number-2.ensures (length_digits 9 _) in
    let w5 = next w4 _ c.put_text-2.ensures c.requires.wide.0 in
    let w6 = next w5 _ c.put_text-3.ensures c.requires.wide.1 in
    (next w6 _ c.put_number-3.ensures (length_digits 8 _)).same
