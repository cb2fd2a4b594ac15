-- `notices::bil::put_to_tiers` meets its contract: five writes, one after the other.
use native.Mathlib.Omega.{arith}
use mathlib.Core.Path.{refl}
use Rattle.fields.specs.Digits.{digits}
use Rattle.fields.proofs.PutLaws.{first, next, length-filled}
use Rattle.fields.proofs.DigitLaws.{length_digits}
use Rattle.notices.specs.Notices.{zeros, bil_to_tiers}
use Rattle.notices.proofs.NoticeLengths.{length-detail-to-key}
use Rattle.notices.proofs.WriteLaws.{next-three, no-charge}
use Rattle.notices.proofs.bil.put_to_tiers.Goals as goal

pub returns : goal.returns
unfolding bil_to_tiers
returns c =
    let a = c.args in
    let t = a.b.bill.terms in
    let w1 = first a.out.now a.at _ (omega (arith, c.requires)) (rw c.alike_for-alike.ensures at c.put_detail_to_key.ensures) (length-detail-to-key _ _ refl _) in
    let w2 = next w1 _ c.put_number.ensures (length_digits 8 _) in
    let w3 = next-three w2 (digits 3 t.sequence) (digits 10 t.latest.consumption.0) (zeros 13) (rw no-charge at c.put_sequence_to_charge.ensures) (length_digits 3 _) (length_digits 10 _) (length-filled 13 48) in
    let w4 = next w3 _ c.put_number-2.ensures (length_digits 8 _) in
    (next w4 _ c.fill.ensures (length-filled 120 48)).same
