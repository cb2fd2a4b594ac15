-- `answers::rej::put_header` meets its contract: three writes, one after the other.
use native.Mathlib.Omega.{arith}
use Rattle.fields.proofs.PutLaws.{first, next}
use Rattle.fields.proofs.DigitLaws.{length_digits}
use Rattle.notices.specs.Answers.{rej_header}
use Rattle.notices.proofs.AnswerLaws.{length-within, length-rej-alike}
use Rattle.answers.proofs.rej.put_header.Goals as goal

pub returns : goal.returns
unfolding rej_header
returns c =
    let a = c.args in
    let w1 = first a.out.now a.at _ (omega (arith, c.requires)) c.put_alike.ensures (length-rej-alike a.h.now c.requires.1 _) in
    let w2 = next w1 _ c.put_number.ensures (length_digits 9 _) in
    (next w2 _ c.copy.ensures (length-within a.h.now c.requires.1 50 271 (omega arith))).same
