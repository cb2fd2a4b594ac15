-- `notices::put_to_count` meets its contract: three writes, one after the other.
use native.Mathlib.Omega.{arith}
use Rattle.fields.proofs.PutLaws.{first, next}
use Rattle.fields.proofs.DigitLaws.{length_digits}
use Rattle.notices.proofs.put_to_count.Goals as goal

pub returns : goal.returns
returns c =
    let a = c.args in
    let w1 = first a.out.now a.at _ (omega (arith, c.requires)) c.put_digits.ensures (length_digits 9 _) in
    let w2 = next w1 _ c.put_digits-2.ensures (length_digits 8 _) in
    (next w2 _ c.put_bytes.ensures c.requires.1).same
