-- `answers::rej::put_alike` meets its contract: three writes, one after the other.
use native.Mathlib.Omega.{arith}
use native.Mathlib.Nat.{add-zero}
use Rattle.fields.proofs.PutLaws.{first, next}
use mathlib.Core.Path.{refl}
use Rattle.fields.proofs.DigitLaws.{length_digits}
use Rattle.notices.specs.Answers.{rej_alike}
use Rattle.notices.proofs.AnswerLaws.{length-within}
use Rattle.answers.proofs.rej.put_alike.Goals as goal

pub returns : goal.returns
unfolding rej_alike
returns c =
    let a = c.args in
    let w1 = first a.out.now a.at _ (omega (arith, c.requires)) (rw (add-zero a.at) at c.copy.ensures) (length-within a.r.now c.requires.1 0 30 (omega arith)) in
    let w2 = next w1 _ c.put_text.ensures refl in
    (next w2 _ c.put_number.ensures (length_digits 8 _)).same
