-- `notices::bil::put_sequence_to_charge` meets its contract: three writes, one after the other.
use native.Mathlib.Omega.{arith}
use Rattle.fields.proofs.PutLaws.{first, next}
use Rattle.fields.proofs.DigitLaws.{length_digits}
use Rattle.notices.proofs.bil.put_sequence_to_charge.Goals as goal

pub returns : goal.returns
returns c =
    let a = c.args in
    let w1 = first a.out.now a.at _ (omega (arith, c.requires)) c.put_digits.ensures (length_digits 3 _) in
    let w2 = next w1 _ c.put_digits-2.ensures (length_digits 10 _) in
    (next w2 _ c.put_digits-3.ensures (length_digits 13 _)).same
