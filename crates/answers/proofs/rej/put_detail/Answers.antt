-- `answers::rej::put_detail` meets its contract: seven writes, one after the other.
use native.Mathlib.Omega.{arith}
use Rattle.fields.proofs.PutLaws.{first, next}
use mathlib.Core.Path.{refl}
use Rattle.fields.proofs.DigitLaws.{length_digits}
use Rattle.notices.specs.Answers.{rej_detail}
use Rattle.notices.proofs.NoticeLengths.{length-spaces-from}
use Rattle.notices.proofs.AnswerLaws.{length-within, length-rej-alike, length_from}
use Rattle.answers.proofs.rej.put_detail.Goals as goal

pub returns : goal.returns
unfolding rej_detail
returns c =
    let a = c.args in
    let w1 = first a.out.now a.at _ (omega (arith, c.requires)) c.put_alike.ensures (length-rej-alike a.d.now c.requires.1 _) in
    let w2 = next w1 _ c.copy.ensures (length-within a.d.now c.requires.1 41 38 (omega arith)) in
    let w3 = next w2 _ c.put_from.ensures (length_from a.d.now c.requires.1 _) in
    let w4 = next w3 _ c.copy-2.ensures (length-within a.d.now c.requires.1 87 172 (omega arith)) in
    let w5 = next w4 _ c.put_text.ensures refl in
    let w6 = next w5 _ c.put_number.ensures (length_digits 2 _) in
    (next w6 _ c.put_end.ensures (length-spaces-from 264)).same
