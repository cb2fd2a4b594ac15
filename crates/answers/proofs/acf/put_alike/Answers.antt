-- `answers::acf::put_alike` meets its contract: five writes, one after the other.
use native.Mathlib.Omega.{arith}
use native.Mathlib.Nat.{add-zero}
use Rattle.fields.proofs.PutLaws.{first, next}
use mathlib.Core.Path.{refl}
use Rattle.fields.proofs.DigitLaws.{length_digits}
use Rattle.notices.specs.Answers.{acf_alike}
use Rattle.notices.proofs.AnswerLaws.{length-within, length-tracking}
use Rattle.answers.proofs.acf.put_alike.Goals as goal

pub returns : goal.returns
unfolding acf_alike
returns c =
    let a = c.args in
    let w1 = first a.out.now a.at _ (omega (arith, c.requires)) (rw (add-zero a.at) at c.copy.ensures) (length-within a.h.now c.requires.1 0 19 (omega arith)) in
    let w2 = next w1 _ (rw c.is_sup-sup.ensures at c.put_tracking.ensures) (length-tracking a.h.now c.requires.1 a.a) in
    let w3 = next w2 _ c.copy-2.ensures (length-within a.h.now c.requires.1 28 2 (omega arith)) in
    let w4 = next w3 _ c.put_text.ensures refl in
    (next w4 _ c.put_number.ensures (length_digits 8 _)).same
