-- `answers::acf::write` meets its contract: four writes, one after the other.
use native.Mathlib.Omega.{arith}
use Rattle.fields.proofs.PutLaws.{first, next}
use mathlib.Core.Path.{refl}
use Rattle.fields.specs.Text.{text}
use Rattle.fields.specs.Digits.{digits}
use Rattle.fields.proofs.DigitLaws.{length_digits}
use Rattle.notices.specs.Answers.{acf_scheduled, acf}
use Rattle.notices.proofs.WriteLaws.{next-three}
use Rattle.notices.proofs.NoticeLengths.{length-spaces-from}
use Rattle.notices.proofs.AnswerLaws.{length-acf-alike, length-balance}
use Rattle.answers.proofs.acf.write.Goals as goal

pub returns : goal.returns
unfolding acf
returns c =
    let a = c.args in
    let w1 = first a.out.now a.at _ (omega (arith, c.requires)) c.put_alike.ensures (length-acf-alike a.h.now c.requires.1 a.a) in
    let told = rw (c.scheduled_of-scheduled.ensures, c.is_sup.ensures) at c.put_to_count.ensures in
    let w2 = next-three w1 (digits 9 a.a.confirmation) (digits 8 (acf_scheduled a.h.now a.a)) (text "00") told (length_digits 9 _) (length_digits 8 _) refl in
    let w3 = next w2 _ (rw c.is_prepay-prepay.ensures at c.put_balance.ensures) (length-balance a.h.now c.requires.1 a.a) in
    (next w3 _ c.put_end.ensures (length-spaces-from 74)).same
