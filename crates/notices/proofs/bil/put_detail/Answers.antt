-- `notices::bil::put_detail` meets its contract: four writes, one after the other.
use native.Mathlib.Omega.{arith}
use Rattle.fields.specs.Digits.{digits}
use Rattle.fields.proofs.PutLaws.{first, next, length-filled}
use Rattle.fields.proofs.DigitLaws.{length_digits}
use Rattle.ledger.specs.Bills.{charge_of}
use Rattle.notices.specs.Notices.{bil_to_owed, bil_detail}
use Rattle.notices.proofs.NoticeLengths.{length-bil-to-tiers, length-spaces-from}
use Rattle.notices.proofs.WriteLaws.{next-three}
use Rattle.notices.proofs.bil.put_detail.Goals as goal

pub returns : goal.returns
unfolding bil_detail bil_to_owed
returns c =
    let a = c.args in
    let w1 = first a.out.now a.at _ (omega (arith, c.requires)) c.put_to_tiers.ensures (length-bil-to-tiers _) in
    let w2 = next-three w1 (digits 3 a.b.bill.terms.requests) (digits 10 a.b.previous.0) (digits 13 (charge_of a.b.bill.posted).0) (rw c.charge-charge.ensures at c.put_sequence_to_charge.ensures) (length_digits 3 _) (length_digits 10 _) (length_digits 13 _) in
    let w3 = next w2 _ (rw (c.product_fill-fill.ensures, c.is_prepay.ensures) at c.fill.ensures) (length-filled 26 _) in
    (next w3 _ c.put_end.ensures (length-spaces-from 260)).same
